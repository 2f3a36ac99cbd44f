-- While a period is backed: each peer has yet to back it, or has backed board U; and nobody has backed another board
-- of it, but for the backings that were there before.
use Prim.Native.Nat.{ℕ, ◌+◌, ◌<◌}
use native.Mathlib.Omega.{arith}
use mathlib.Core.Bool.{Bool, true, false}
use mathlib.Core.Path.{◌≡◌, refl, sym, subst}
use mathlib.Core.Logic.{◌⊎◌, inl, inr, ⊎_elim}
use Rattle.base.specs.Sets.{add3, set_at}
use Rattle.base.proofs.Truth.{split}
use Rattle.base.proofs.Sets.{grow3, old3, new3, set_elim}
use Rattle.rules.specs.declared.Entry.TheVariants.{Backing}
use Rattle.rules.specs.declared.Step.{Step}
use Rattle.rules.specs.declared.Step.TheVariants.{SendHash, Back, Publish, FalseHash, FalseBacking, ClearHashes}
use Rattle.rules.specs.Table.{Table}
use Rattle.rules.specs.Bag.{is_in, entry_at, period_of, board_of}
use Rattle.rules.specs.State.{State}
use Rattle.rules.specs.Rules.{rule, board_by}
use Rattle.rules.specs.Valid.{Peer}
use Rattle.rules.proofs.Answered.{Clear}
use Rattle.rules.proofs.Bag.{backs, backs_hash, backs_backing, backs_board, backs_without}
use Rattle.rules.proofs.Each.{each}
use Rattle.rules.proofs.Valid.{is_peer_lem}
use Rattle.liveness.specs.Close.{AllHonest}

module _ (T : Table) (p U : ℕ) (before : State) where
  abbrev was : ℕ → ℕ → Bool
  was k B = is_in (Backing k p B) before.bag

  pub record Backed (backs : ℕ → ℕ → ℕ → Bool) (to_back : ℕ → ℕ) : Type 0 where
    pub due : (k : ℕ) → Peer T k → (to_back k ≡ p) ⊎ ((p < to_back k) × (backs k p U ≡ true))
    pub only : (k B : ℕ) → backs k p B ≡ true → was k B ≡ false → B ≡ U

  abbrev pub BackedIn : State → Type 0
  BackedIn s = Backed (backs s.bag) s.to_back

  module _ (A : AllHonest T) (s : State) (I : BackedIn s) where
    -- whoever backs p has the board U
    abbrev ItsBoard : Step → Type 0
    ItsBoard st = (j : ℕ) → st ≡ Back j → Peer T j → s.to_back j ≡ p → board_by T s j p ≡ U

    abbrev StaysBacked : Step → Type 0
    StaysBacked st = ItsBoard st → Clear T s st → BackedIn (rule T s st).effect

    -- j backs board B of its period c
    one_backs : (j B : ℕ) → (s.to_back j ≡ p → B ≡ U)
        → Backed (add3 j (s.to_back j) B (backs s.bag)) (set_at j (s.to_back j + 1) s.to_back)
    one_backs j B its = record {
      due = set_elim (λ k v. Peer T k → (v ≡ p) ⊎ ((p < v) × (more k p U ≡ true))) j (s.to_back j + 1) s.to_back
          (λ h. inr (⊎_elim (λ u. (omega arith, new u)) (λ u. (omega (arith, u.0), old j p U u.1)) (I.due j h)))
          (λ k h. ⊎_elim inl (λ u. inr (u.0, old k p U u.1)) (I.due k h));
      only = λ k C b n. grow3 {P = λ k q C. q ≡ p → was k C ≡ false → C ≡ U} j (s.to_back j) B (backs s.bag)
          (λ u n. its u) earlier k p C b refl n;
    }
      where
        more : ℕ → ℕ → ℕ → Bool
        more = add3 j (s.to_back j) B (backs s.bag)

        old : (k q C : ℕ) → backs s.bag k q C ≡ true → more k q C ≡ true
        old = old3 j (s.to_back j) B (backs s.bag)

        new : s.to_back j ≡ p → more j p U ≡ true
        new u = subst (λ (C : ℕ). more j p C ≡ true) (its u)
            (subst (λ (q : ℕ). more j q B ≡ true) u (new3 j (s.to_back j) B (backs s.bag)))

        earlier : (k q C : ℕ) → backs s.bag k q C ≡ true → q ≡ p → was k C ≡ false → C ≡ U
        earlier k q C b e = I.only k C (subst (λ (a : ℕ). backs s.bag k a C ≡ true) e b)

    backed_back : (j : ℕ) → StaysBacked (Back j)
    unfolding rule
    backed_back j f c =
        let q = s.to_back j in
        let peer = is_peer_lem T j (search) in
        rw (backs_backing j q (board_by T s j q) s.bag)
        (one_backs j (board_by T s j q) (λ u. subst (λ (a : ℕ). board_by T s j a ≡ U) (sym u) (f j refl peer u)))

    -- a false backing is a dishonest peer's, and there is none
    backed_false : (j q B : ℕ) → StaysBacked (FalseBacking j q B)
    unfolding rule
    backed_false j q B f c = split (A.honest j (is_peer_lem T j (search))) (search)

    -- other entries are no backings
    backed_hash : (j q : ℕ) → StaysBacked (SendHash j q)
    unfolding rule
    backed_hash j q f c = rw (backs_hash j q (board_by T s j q) s.bag) I

    backed_false_hash : (j q B : ℕ) → StaysBacked (FalseHash j q B)
    unfolding rule
    backed_false_hash j q B f c = rw (backs_hash j q B s.bag) I

    backed_publish : (e : ℕ) → StaysBacked (Publish e)
    unfolding rule
    backed_publish e f c = rw (backs_board (period_of (entry_at s.bag e)) (board_of (entry_at s.bag e)) s.bag) I

    -- and no backing leaves
    backed_clear : (q : ℕ) → StaysBacked (ClearHashes q)
    unfolding rule
    backed_clear q f c = rw (backs_without q s.bag) I

    pub backed_step : (st : Step) → StaysBacked st
    unfolding rule
    backed_step = each StaysBacked (search (backed_back, backed_false, backed_hash, backed_false_hash, backed_publish, backed_clear))
