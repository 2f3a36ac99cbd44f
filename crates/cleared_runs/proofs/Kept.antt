-- A step on what clears have left of a state, its entry number translated: it is answered as on the state itself, but
-- that a gone hash is unknown, and leaves what the clears have left of what it leaves there.
use Prim.Native.Nat.{ℕ, ◌+◌, ◌≤◌}
use native.Mathlib.Omega.{arith}
use mathlib.Core.Bool.{Bool, true, false, cond, ◌&&◌, ◌||◌, not}
use mathlib.Core.List.{List, [], ◌∷◌}
use mathlib.Core.Path.{◌≡◌, refl, sym, ap, ◌∙◌, fun_ext, subst}
use mathlib.Core.Logic.{◌⊎◌, inl, inr}
use lib.Dec.{eqb}
use borrow.Author.Tests.{not-false, lt-ltb}
use Rattle.base.specs.Refusals.{Row, numbered, first}
use Rattle.base.specs.Sets.{add4, set_at}
use Rattle.base.proofs.Truth.{split, true_false, either, is_false, iff, or_l, or_cases, or_false_l, or_false_r}
use Rattle.base.proofs.Sets.{new4, old4, grow4, rises}
use Rattle.rules.specs.declared.Entry.{Entry}
use Rattle.rules.specs.declared.Entry.TheVariants.{Hash, Backing, Board}
use Rattle.rules.specs.declared.Step.{Step}
use Rattle.rules.specs.declared.Step.TheVariants.{SendHash, Hear, Back, Publish, FalseHash, FalseBacking, ClearHashes}
use Rattle.rules.specs.Table.{Table, quorum}
use Rattle.rules.specs.Bag.{same_entry, is_in, entry_at, no_entry, is_hash, is_backing, signer_of, period_of, board_of, enter, is_full}
use Rattle.rules.specs.State.{State, with_bag_lem, with_heard, with_to_back_lem}
use Rattle.rules.specs.Rules.{rule, answer, next, backers, board_by, no_peer, not_closed}
use Rattle.rules.specs.Valid.{Valid}
use Rattle.rules.proofs.Answered.{judged}
use Rattle.rules.proofs.Each.{each}
use Rattle.rules.proofs.Bag.{in_enter, stays_in, kind_in, backing_in}
use Rattle.rules.proofs.Backed.{yet, backed, stays_backed}
use Rattle.rules.proofs.Valid.{is_peer_lem}
use Rattle.cleared_runs.specs.Cleared.{is_clear, renumber, no_hashes, Cleared}
use Rattle.cleared_runs.proofs.Places.{room, found, lacking, others_enter, others_hash}
use Rattle.cleared_runs.proofs.Translated.{renumbered, hearing}
use Rattle.cleared_runs.proofs.Alike.{Alike, keep, equal, ends, hear_gone, never_zero, both, first_only}

-- the state with another bag and other hashes heard
abbrev pub rid : State → List Entry → (ℕ → ℕ → ℕ → ℕ → Bool) → State
rid u b h = with_heard (with_bag_lem u b) h

no_backing : (a : Entry) → is_hash a ≡ true → is_backing a ≡ false
no_backing (Hash k p B) h = refl
no_backing (Backing k p B) h = split h refl
no_backing (Board p B) h = refl

module _ (T : Table) (S : ℕ → Bool) where
  abbrev publish_tests : List Entry → Entry → Row
  publish_tests bag a = (10, not (is_backing a)) ∷ (12, not (quorum T (backers bag (period_of a) (board_of a)))) ∷
      (13, is_full (Board (period_of a) (board_of a)) bag) ∷ []

  abbrev hear_tests : State → ℕ → Entry → Row
  hear_tests s j a = (6, no_peer T.n j) ∷ (7, not (T.honest j)) ∷ (8, s.down j) ∷ (10, not (is_hash a)) ∷
      (9, not_closed (s.current j) (period_of a)) ∷ []

  pub record Kept (u v : State) (st : Step) : Type 0 where
    pub answers : answer T v (renumbered u.bag v.bag st) ≡ cond (hearing u.bag v.bag st && eqb (answer T u st) 0) 10
        (answer T u st)
    pub states : is_clear st ≡ false → Cleared T S (next T u st) (next T v (renumbered u.bag v.bag st))

  module _ (u : State) (b : List Entry) (h : ℕ → ℕ → ℕ → ℕ → Bool) (L : Cleared T S u (rid u b h)) (G : Valid T u) (H : Valid T (rid u b h))
    where
      abbrev v : State
      v = rid u b h

      -- the bags

      same_in : (a : Entry) → is_hash a ≡ false → is_in a b ≡ is_in a u.bag
      same_in a n = iff _ _ (L.within a) (λ m. go m (either (is_in a b)))
        where
          go : is_in a u.bag ≡ true → (is_in a b ≡ true) ⊎ (is_in a b ≡ false) → is_in a b ≡ true
          go m (inl e) = e
          go m (inr e) = split (L.gone a m e).0 n

      room_for : (a : Entry) → is_full a u.bag ≡ false → is_full a b ≡ false
      room_for a f = room b u.bag H.bag.apart L.within G.bag.size a f

      others_in : (a : Entry) → no_hashes (enter a b) ≡ no_hashes (enter a u.bag)
      others_in (Hash k p B) = others_hash k p B b ∙ L.others ∙ sym (others_hash k p B u.bag)
      others_in (Backing k p B) = others_enter (Backing k p B) b ∙ rw (same_in (Backing k p B) refl, L.others)
          (sym (others_enter (Backing k p B) u.bag))
      others_in (Board p B) = others_enter (Board p B) b ∙ rw (same_in (Board p B) refl, L.others)
          (sym (others_enter (Board p B) u.bag))

      -- an entry more in both bags, and counters that have risen
      entered : (a : Entry) (c : ℕ → ℕ) → ((k : ℕ) → u.to_back k ≤ c k)
          → Cleared T S (with_to_back_lem (with_bag_lem u (enter a u.bag)) c) (with_to_back_lem (with_bag_lem v (enter a b)) c)
      entered a c up = record {
        rest = refl;
        others = others_in a;
        within = within;
        gone = gone;
        heard = L.heard;
        unheard = L.unheard;
        backed = λ p m. stays_backed T u.to_back c up p (L.backed p m);
      }
        where
          within : (x : Entry) → is_in x (enter a b) ≡ true → is_in x (enter a u.bag) ≡ true
          within x m = go (or_cases (same_entry x a) (is_in x b) (sym (in_enter x a b) ∙ m))
            where
              go : (same_entry x a ≡ true) ⊎ (is_in x b ≡ true) → is_in x (enter a u.bag) ≡ true
              go (inl q) = in_enter x a u.bag ∙ or_l (same_entry x a) _ q
              go (inr q) = stays_in a x u.bag (L.within x q)

          gone : (x : Entry) → is_in x (enter a u.bag) ≡ true → is_in x (enter a b) ≡ false → (is_hash x ≡ true) × (S (period_of x) ≡ true)
          gone x m n = go (or_cases (same_entry x a) (is_in x u.bag) (sym (in_enter x a u.bag) ∙ m))
            where
              no : same_entry x a || is_in x b ≡ false
              no = sym (in_enter x a b) ∙ n

              go : (same_entry x a ≡ true) ⊎ (is_in x u.bag ≡ true) → (is_hash x ≡ true) × (S (period_of x) ≡ true)
              go (inl q) = split q (or_false_l (same_entry x a) (is_in x b) no)
              go (inr q) = L.gone x q (or_false_r (same_entry x a) _ no)

      entered_only : (a : Entry) → Cleared T S (with_bag_lem u (enter a u.bag)) (with_bag_lem v (enter a b))
      entered_only a = entered a u.to_back (λ k. omega arith)

      -- a hash more is heard, in both or in the first alone
      heard_both : (j k p B : ℕ) → Cleared T S (with_heard u (add4 j k p B u.heard)) (with_heard v (add4 j k p B h))
      heard_both j k p B = record {
        rest = refl;
        backed = L.backed;
        others = L.others;
        within = L.within;
        gone = L.gone;
        heard = grow4 j k p B h (new4 j k p B u.heard) (λ i l q C m. old4 j k p B u.heard i l q C (L.heard i l q C m));
        unheard = grow4 {P = λ i l q C. add4 j k p B h i l q C ≡ false → S q ≡ true} j k p B u.heard (λ n. split (new4 j k p B h) n)
            (λ i l q C m n. L.unheard i l q C m (is_false _ (λ e. split (old4 j k p B h i l q C e) n)));
      }

      heard_first : (j k p B : ℕ) → S p ≡ true → Cleared T S (with_heard u (add4 j k p B u.heard)) v
      heard_first j k p B its = record {
        rest = refl;
        backed = L.backed;
        others = L.others;
        within = L.within;
        gone = L.gone;
        heard = λ i l q C m. old4 j k p B u.heard i l q C (L.heard i l q C m);
        unheard = grow4 {P = λ i l q C. h i l q C ≡ false → S q ≡ true} j k p B u.heard (λ n. its)
            (λ i l q C m n. L.unheard i l q C m n);
      }

      -- back: what an honest peer has heard of the period that it backs next is all there
      same_heard : (j : ℕ) → no_peer T.n j ≡ false → T.honest j ≡ true → (k B : ℕ) → h j k (u.to_back j) B ≡ u.heard j k (u.to_back j) B
      same_heard j peer honest k B = iff _ _ (L.heard j k (u.to_back j) B) (λ m. go m (either (h j k (u.to_back j) B)))
        where
          go : u.heard j k (u.to_back j) B ≡ true → (h j k (u.to_back j) B ≡ true) ⊎ (h j k (u.to_back j) B ≡ false)
              → h j k (u.to_back j) B ≡ true
          go m (inl e) = e
          go m (inr e) = split (yet T u.to_back (u.to_back j) j honest (is_peer_lem T j peer) (omega arith))
              (L.backed (u.to_back j) (L.unheard j k (u.to_back j) B m e))

      alike_back : (j : ℕ) → Alike (numbered (rule T u (Back j)).refusals) (numbered (rule T v (Back j)).refusals)
      unfolding rule
      alike_back j =
          let c = u.to_back j in
          let B = board_by T u j c in
          keep (λ peer. keep
          (λ honest. keep
          (λ up. keep (λ closed. equal
          (ap (λ (S : ℕ → Bool). not (quorum T S)) (fun_ext (λ k. same_heard j peer (not-false (T.honest j) honest) k B)))
          (λ enough. ends (room_for (Backing j c B)))))))

      alike_hash : (j p : ℕ) → Alike (numbered (rule T u (SendHash j p)).refusals) (numbered (rule T v (SendHash j p)).refusals)
      unfolding rule
      alike_hash j p = keep (λ a. keep (λ a. keep (λ a. keep (λ a. keep (λ a. ends (room_for (Hash j p (board_by T u j p))))))))

      alike_false_hash : (j p B : ℕ)
          → Alike (numbered (rule T u (FalseHash j p B)).refusals) (numbered (rule T v (FalseHash j p B)).refusals)
      unfolding rule
      alike_false_hash j p B = keep (λ a. keep (λ a. keep (λ a. keep (λ a. keep (λ a. ends (room_for (Hash j p B)))))))

      alike_false_backing : (j p B : ℕ)
          → Alike (numbered (rule T u (FalseBacking j p B)).refusals) (numbered (rule T v (FalseBacking j p B)).refusals)
      unfolding rule
      alike_false_backing j p B = keep (λ a. keep (λ a. keep (λ a. keep (λ a. keep (λ a. ends (room_for (Backing j p B)))))))

      -- publish: the backing that is named is never gone
      module _ (e : ℕ) where
        abbrev a : Entry
        a = entry_at u.bag e

        abbrev to : ℕ
        to = renumber u.bag b e

        there : is_in a b ≡ true → entry_at b to ≡ a
        there m = found b u.bag H.bag.apart L.within e m

        none : is_in a b ≡ false → entry_at b to ≡ no_entry
        none m = lacking b u.bag H.bag.apart L.within e m

        alike_publish : Alike (publish_tests u.bag a) (publish_tests b a)
        alike_publish = keep
            (λ k. equal (ap (λ (S : ℕ → Bool). not (quorum T S)) (fun_ext (λ k. same_in (Backing k (period_of a) (board_of a)) refl)))
            (λ q. ends (room_for (Board (period_of a) (board_of a)))))

        kept_publish : eqb (answer T u (Publish e)) 13 ≡ false → Kept u v (Publish e)
        unfolding answer rule renumbered first
        kept_publish n = go (either (is_in a b))
          where
            go : (is_in a b ≡ true) ⊎ (is_in a b ≡ false) → Kept u v (Publish e)
            go (inl m) =
                let same : first (publish_tests b (entry_at b to)) ≡ first (publish_tests u.bag a) = ap
                (λ (x : Entry). first (publish_tests b x)) (there m) ∙ alike_publish.same n in
                record {
                  answers = same;
                  states = λ o. both T S u v (Publish e) (Publish to) L same
                      (λ c d. subst
                      (λ (x : Entry). Cleared T S (with_bag_lem u (enter (Board (period_of a) (board_of a)) u.bag))
                      (with_bag_lem v (enter (Board (period_of x) (board_of x)) b))) (sym (there m))
                      (entered_only (Board (period_of a) (board_of a))));
                }
            go (inr m) =
                let no : is_backing a ≡ false = is_false (is_backing a)
                (λ k. split k (no_backing a (L.gone a (backing_in u.bag e k) m).0))
                in
                let same : first (publish_tests b (entry_at b to)) ≡ first (publish_tests u.bag a) = ap
                (λ (x : Entry). first (publish_tests b x)) (none m) ∙ rw no in
                record { answers = same; states = λ o. both T S u v (Publish e) (Publish to) L same (λ c d. split (search judged) no) }

        -- hear: a hash that is gone is of a period that j has closed
        gone_cleared : is_hash a ≡ true → is_in a b ≡ false → S (period_of a) ≡ true
        gone_cleared i m = (L.gone a (kind_in is_hash refl u.bag e i) m).1

        gone_closed : (j : ℕ) → is_in a b ≡ false → no_peer T.n j ≡ false → not (T.honest j) ≡ false → is_hash a ≡ true
            → not_closed (u.current j) (period_of a) ≡ false
        gone_closed j m peer honest i =
            rw (lt-ltb (period_of a) (u.current j)
            (omega (
              arith,
              backed T u.to_back (period_of a) (L.backed (period_of a) (gone_cleared i m)) j
                  (not-false (T.honest j) honest) (is_peer_lem T j peer),
              G.counters.behind j,
            )))

        kept_hear : (j : ℕ) → Kept u v (Hear j e)
        unfolding answer rule renumbered
        kept_hear j = go (either (is_in a b))
          where
            go : (is_in a b ≡ true) ⊎ (is_in a b ≡ false) → Kept u v (Hear j e)
            go (inl m) =
                let same : first (hear_tests v j (entry_at b to)) ≡ first (hear_tests u j a) = ap (λ (x : Entry). first (hear_tests v j x))
                (there m) in
                record {
                  answers = rw m same;
                  states = λ o. both T S u v (Hear j e) (Hear j to) L same
                      (λ c d. subst
                      (λ (x : Entry). Cleared T S (with_heard u (add4 j (signer_of a) (period_of a) (board_of a) u.heard))
                      (with_heard v (add4 j (signer_of x) (period_of x) (board_of x) h))) (sym (there m))
                      (heard_both j (signer_of a) (period_of a) (board_of a)));
                }
            go (inr m) =
                let answers : first (hear_tests v j (entry_at b to)) ≡ cond (eqb (first (hear_tests u j a)) 0) 10 (first (hear_tests u j a)) =
                ap (λ (x : Entry). first (hear_tests v j x)) (none m)
                ∙ hear_gone (no_peer T.n j) (not (T.honest j)) (u.down j) (is_hash a) (not_closed (u.current j) (period_of a))
                (gone_closed j m) ((9, not_closed (u.current j) 0) ∷ []) in
                record {
                  answers = rw m answers;
                  states = λ o. first_only T S u v (Hear j e) (Hear j to) L
                      (ap (λ (z : ℕ). eqb z 0) answers ∙ never_zero (first (hear_tests u j a)))
                      (λ c. heard_first j (signer_of a) (period_of a) (board_of a) (gone_cleared (search judged) m));
                }

      -- each step

      abbrev KeptBy : Step → Type 0
      KeptBy st = eqb (answer T u st) 13 ≡ false → Kept u v st

      -- one that looks at neither bag nor what is heard
      untouched : (st : Step) → answer T v (renumbered u.bag b st) ≡ answer T u st → hearing u.bag b st ≡ false
          → Cleared T S (rule T u st).effect (rule T v (renumbered u.bag b st)).effect → KeptBy st
      untouched st same quiet C n = record {
        answers = rw quiet same;
        states = λ o. both T S u v st (renumbered u.bag b st) L same (λ c d. C);
      }

      kept_hash : (j p : ℕ) → KeptBy (SendHash j p)
      unfolding answer rule renumbered
      kept_hash j p n = untouched (SendHash j p) ((alike_hash j p).same n) refl (entered_only _) n

      kept_false_hash : (j p B : ℕ) → KeptBy (FalseHash j p B)
      unfolding answer rule renumbered
      kept_false_hash j p B n = untouched (FalseHash j p B) ((alike_false_hash j p B).same n) refl (entered_only _) n

      kept_false_backing : (j p B : ℕ) → KeptBy (FalseBacking j p B)
      unfolding answer rule renumbered
      kept_false_backing j p B n = untouched (FalseBacking j p B) ((alike_false_backing j p B).same n) refl (entered_only _) n

      kept_back : (j : ℕ) → KeptBy (Back j)
      unfolding answer rule renumbered
      kept_back j n = untouched (Back j) ((alike_back j).same n) refl
          (entered _ (set_at j (u.to_back j + 1) u.to_back) (rises j u.to_back)) n

      kept_clear : (q : ℕ) → KeptBy (ClearHashes q)
      unfolding answer rule renumbered
      kept_clear q n = record { answers = refl; states = λ o. true_false o }

      kept_heard : (j e : ℕ) → KeptBy (Hear j e)
      kept_heard j e n = kept_hear e j

      pub kept : (st : Step) → KeptBy st
      unfolding answer rule renumbered
      kept = each KeptBy
          (search (untouched, kept_hash, kept_false_hash, kept_false_backing, kept_back, kept_clear, kept_heard, kept_publish))
