-- Once all have closed p and while none goes down: the union of the databases of p stays as it was, and whoever has
-- fetched from every other has it.
use Prim.Native.Nat.{ℕ, suc, ◌<◌}
use native.Mathlib.Decide.{ℕ_discrete}
use native.Mathlib.Omega.{arith}
use mathlib.Core.Bool.{Bool, true}
use mathlib.Core.List.{List, ◌++◌}
use lib.ListN.{take}
use mathlib.Core.Path.{◌≡◌, sym, ap, subst, fun_ext, ◌∙◌}
use Rattle.base.proofs.Truth.{iff}
use Rattle.rules.specs.declared.Step.TheVariants.{Take, Fetch, Down}
use Rattle.std.specs.Prelude.{Some}
use Rattle.rules.specs.Table.{Table}
use Rattle.rules.specs.State.{State}
use Rattle.rules.specs.Rules.{rule, board_by, board_from}
use Rattle.rules.specs.Valid.{Peer}
use Rattle.rules.proofs.Answered.{answered, judged}
use Rattle.rules.proofs.Grow.{own_known}
use Rattle.rules.proofs.Rows.{rows_new}
use Rattle.rules.proofs.Valid.{is_peer_lem}
use Rattle.edges.specs.Steps.{Able}
use Rattle.liveness.specs.Union.{union, union_board}
use Rattle.liveness.specs.Places.{Behaviour, step_at, held_at}
use Rattle.liveness.specs.Close.{AllHonest, Closed}
use Rattle.liveness.specs.Lent.{NothingNew}
use Rattle.liveness.proofs.Places.{Obeys, ruled, obeys, its_answer, now_done, along, keeps, since}
use Rattle.liveness.proofs.Answers.{fetch-done}
use Rattle.liveness.proofs.Union.{union_in, union-of, CalmIn, calm_step}

-- what holds at every place of `later`, where j fetches from k at fetch_at j k
pub record Steady (T : Table) (E : Behaviour) (earlier later : List (List ℕ)) (p : ℕ) (fetch_at : ℕ → ℕ → ℕ) : Type 0 where
  pub closed : (i k : ℕ) → Peer T k → p < (held_at E earlier later i).current k
  pub able : (i k : ℕ) → Peer T k → Able T (held_at E earlier later i) k
  pub same_union : (i x k : ℕ) → union T (held_at E earlier later i) p x k ≡ union T (E.held earlier) p x k
  -- the board of whoever has fetched from every other is the union's
  pub its_board : (i j : ℕ) → Peer T j → ((k : ℕ) → Peer T k → (j ≡ k → ⊥) → fetch_at j k < i)
      → board_by T (held_at E earlier later i) j p ≡ union_board T (E.held earlier) p

module _ {T : Table} {E : Behaviour} (O : Obeys T E) (A : AllHonest T) (earlier later : List (List ℕ)) (p : ℕ)
    (C : Closed T (E.held earlier) p) (none_down : (i j : ℕ) → Peer T j → step_at later i ≡ Some (Down j) → ⊥)
    (known : NothingNew T E earlier later p) where
  abbrev begin : State
  begin = E.held earlier

  abbrev now : ℕ → State
  now i = held_at E earlier later i

  abbrev most : ℕ → ℕ → Bool
  most = union T begin p

  still_closed : (i k : ℕ) → Peer T k → p < (now i).current k
  still_closed i k h = omega (arith, C.closed k h, (since O earlier later i).current k)

  of-table : (k : ℕ) → Peer T k → p < T.periods
  of-table k h = omega (arith, C.closed k h, (O.valid earlier).counters.opens k)

  calm : (i : ℕ) → CalmIn T p most (now i)
  calm = along O earlier later (CalmIn T p most) (record { up = C.up; within = union_in T.n (λ j. begin.db j p) })
      (λ i st e a c I. calm_step T p most (now i) (still_closed i) I st (λ j h u. none_down i j h (e ∙ ap Some u))
      (λ j k x u. known i j k x (e ∙ ap Some u) (its_answer O earlier later i st e ∙ a)) c)

  able : (i k : ℕ) → Peer T k → Able T (now i) k
  able i k h = record { peer = h; honest = A.honest k h; up = (calm i).up k h }

  same_union : (i x l : ℕ) → union T (now i) p x l ≡ most x l
  same_union i x l = iff _ _
      (λ e. let r = union-of T.n (λ j. (now i).db j p) x l e in (calm i).within r.0 x l r.1.0 r.1.1)
      (λ e. let r = union-of T.n (λ j. begin.db j p) x l e in
      union_in T.n (λ j. (now i).db j p) r.0 x l r.1.0 ((since O earlier later i).db r.0 p x l r.1.1))

  -- the places of fetches from every other
  module _ (fetch_at : ℕ → ℕ → ℕ)
      (fetches : (j k : ℕ) → Peer T j → Peer T k → (j ≡ k → ⊥) → step_at later (fetch_at j k) ≡ Some (Fetch j k p)) where
    -- j's fetches are done by place i
    abbrev Fetched : ℕ → ℕ → Type 0
    Fetched j i = (k : ℕ) → Peer T k → (j ≡ k → ⊥) → fetch_at j k < i

    brought : (i j k x l : ℕ) → Peer T j → Peer T k → (j ≡ k → ⊥) → fetch_at j k < i → begin.db k p x l ≡ true → (now i).db j p x l ≡ true
    unfolding rule
    brought i j k x l hj hk d before e =
        let at = fetch_at j k in
        let zero = fetch-done T (now at) j k p (able at j hj) (able at k hk) (of-table j hj)
        (still_closed at j hj) (still_closed at k hk) in
        let left = now_done O earlier later at (Fetch j k p) (fetches j k hj hk d) zero in
        let new = rows_new j p ((now at).db k p) (now at).db x l ((since O earlier later at).db k p x l e) in
        (keeps O earlier later (suc at) i before).db j p x l (subst (λ (v : State). v.db j p x l ≡ true) (sym left) new)

    has-union : (i j : ℕ) → Peer T j → Fetched j i → (x l : ℕ) → (now i).db j p x l ≡ most x l
    has-union i j hj all x l = iff _ _ ((calm i).within j x l hj)
        (λ e. let r = union-of T.n (λ j. begin.db j p) x l e in go r.0 r.1.0 r.1.1 (ℕ_discrete j r.0))
      where
        go : (k : ℕ) → Peer T k → begin.db k p x l ≡ true → Dec (j ≡ k) → (now i).db j p x l ≡ true
        go k hk e (yes u) = (since O earlier later i).db j p x l (subst (λ (a : ℕ). begin.db a p x l ≡ true) (sym u) e)
        go k hk e (no d) = brought i j k x l hj hk d (all k hk d) e

    its_board : (i j : ℕ) → Peer T j → Fetched j i → board_by T (now i) j p ≡ union_board T begin p
    its_board i j hj all = ap (board_from T) (fun_ext (λ x. fun_ext (λ l. has-union i j hj all x l)))

    pub steady : Steady T E earlier later p fetch_at
    steady = record { closed = still_closed; able = able; same_union = same_union; its_board = its_board }

-- From the fresh state every signature that is taken is in its signer's database.
pub taken_known : (T : Table) → AllHonest T → (earlier later : List (List ℕ)) (p : ℕ) → NothingNew T (ruled T) earlier later p
unfolding rule
taken_known T A earlier later p i j k x e a =
    let s = held_at (ruled T) earlier later i in
    let c = answered T s (Take j k p x) (sym (its_answer (obeys T) earlier later i (Take j k p x) e) ∙ a) in
    let peer : Peer T k = is_peer_lem T k (search) in
    union_in T.n (λ j. s.db j p) k x k peer (own_known T (earlier ++ take i later) k p x (search judged) (A.honest k peer))
