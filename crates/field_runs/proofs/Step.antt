-- One step beside what it passes: the two rows of refusals are alike, what is sent is the same, and the box has j's part
-- after it.
use Prim.Native.Nat.{ℕ, ◌+◌, ◌^◌, ◌≤◌, ◌<◌}
use native.Mathlib.Omega.{arith}
use mathlib.Core.Bool.{Bool, true, false, ◌&&◌, ◌||◌, not}
use mathlib.Core.List.{List}
use mathlib.Core.Option.{none, some}
use mathlib.Core.Path.{◌≡◌, refl, sym, ap, ◌∙◌, subst, fun_ext}
use lib.Dec.{eqb, ltb}
use borrow.Author.Tests.{eqb-true, ne_eqb, lt-ltb, not-true, not-false}
use Rattle.base.specs.Sets.{add3, add4}
use Rattle.base.proofs.Truth.{split, is_false, not_i, and_i, and_l, and_r, eqb_self, eqb_sym}
use Rattle.base.proofs.Sets.{at_set}
use Rattle.rules.specs.declared.Entry.{Entry}
use Rattle.rules.specs.declared.Entry.TheVariants.{Hash}
use Rattle.rules.specs.declared.Step.{Step}
use Rattle.rules.specs.declared.Step.TheVariants.{Post, Hand, Sign, Take, Share, Receipt, Close, Fetch, SendHash, Hear, Back, Publish, FalseSignature, FalseShare, FalseHash, FalseBacking, Down, Up, ClearHashes}
use Rattle.rules.specs.Table.{Table, quorum}
use Rattle.rules.specs.Bag.{same_entry, is_in, entry_at, enter, is_hash, signer_of, period_of, board_of, unheard}
use Rattle.rules.specs.State.{State}
use Rattle.rules.specs.Rules.{rule, board_by, no_peer, no_period, no_board}
use Rattle.rules.specs.Valid.{Valid, Peer}
use Rattle.rules.proofs.Answered.{Clear, judged}
use Rattle.rules.proofs.Backed.{backed}
use Rattle.rules.proofs.Bag.{in_enter, hash_in_lem}
use Rattle.field_rules.specs.Box.{Box}
use Rattle.field_rules.specs.Message.{Message, handed, taken, fetched, told, signs, shares, closes, hashes, backs, falls, rises}
use Rattle.field_rules.specs.Rules.{field_rule}
use Rattle.field_runs.specs.Passed.{when, fetchable, passed, sends_of, part_of}
use Rattle.field_runs.specs.Beside.{Part}
use Rattle.field_runs.proofs.Passing.{none_some, neg, when_some, when-none, a_peer, heard_else, rows_in_lem}
use Rattle.field_runs.proofs.Like.{Like, done, keep, equal, left, right, full_left, full_right}
use Rattle.field_runs.proofs.Own.{own3, own4, own_rows_lem, still3, still4, still_rows, still_set}

module _ (T : Table) where
  module _ (j : ℕ) (peer : Peer T j) (honest : T.honest j ≡ true) (s : State) (G : Valid T s) (H : List Entry)
      (A : (k p B : ℕ) → s.to_back j ≤ p → is_in (Hash k p B) H ≡ s.heard j k p B) where
    abbrev b : Box
    b = part_of s j H

    pub record Match (st : Step) (m : Message) : Type 0 where
      pub like : Like (rule T s st).refusals (field_rule T j b m).refusals
      pub sent : sends_of T j s st ≡ (field_rule T j b m).sends
      pub after : Part (rule T s st).effect j (field_rule T j b m).effect

    my_name : no_peer T.n j ≡ false
    my_name = a_peer T j peer

    my_role : not (T.honest j) ≡ false
    my_role = rw honest

    match_hand : (x : ℕ) → s.posted x ≡ true → Match (Hand j x) (handed x)
    unfolding rule field_rule sends_of
    match_hand x h = record {
      like = left my_name (keep (left my_role (keep (keep (left (neg (s.posted x) h) (keep done))))));
      sent = refl;
      after = record { own = rw (own3 j (s.current j) x s.held); heard = A };
    }

    match_sign : (x : ℕ) → Match (Sign j x) (signs x)
    unfolding rule field_rule sends_of when
    match_sign x = record {
      like = left my_name (keep (left my_role (keep (keep (keep done)))));
      sent = rw (eqb_self j);
      after = record { own = rw (own4 j (s.current j) x j s.db); heard = A };
    }

    match_take : (k p x : ℕ) → s.signed k p x ≡ true → Match (Take j k p x) (taken k p x)
    unfolding rule field_rule sends_of
    match_take k p x h = record {
      like = left my_name (keep (keep (keep (left my_role (keep (keep (left (neg (s.signed k p x) h) done)))))));
      sent = refl;
      after = record { own = rw (own4 j p x k s.db); heard = A };
    }

    match_share : (x : ℕ) → Match (Share j x) (shares x)
    unfolding rule field_rule sends_of when
    match_share x = record {
      like = left my_name (keep (left my_role (keep (keep (keep (keep done))))));
      sent = rw (eqb_self j);
      after = record { own = rw (own3 j (s.current j) x s.shared); heard = A };
    }

    match_close : Match (Close j) closes
    unfolding rule field_rule sends_of
    match_close = record {
      like = left my_name (left my_role (keep (keep done)));
      sent = refl;
      after = record { own = rw (at_set j (s.current j + 1) s.current); heard = A };
    }

    match_hash : (p : ℕ) → Match (SendHash j p) (hashes p)
    unfolding rule field_rule sends_of when
    match_hash p = record {
      like = left my_name (keep (left my_role (keep (keep full_left))));
      sent = rw (eqb_self j);
      after = record { own = refl; heard = A };
    }

    match_back : Match (Back j) backs
    unfolding rule field_rule sends_of when
    match_back = record {
      like = left my_name
          (left my_role
          (keep (keep (equal
          (ap (λ (S : ℕ → Bool). not (quorum T S)) (fun_ext (λ k. A k (s.to_back j) (board_by T s j (s.to_back j)) (omega arith))))
          full_left))));
      sent = rw (eqb_self j);
      after = record {
        own = rw (at_set j (s.to_back j + 1) s.to_back);
        heard = λ k p B d. A k p B
            (omega (arith, d, at_set j (s.to_back j + 1) s.to_back));
      };
    }

    match_down : Match (Down j) falls
    unfolding rule field_rule sends_of
    match_down = record
        { like = left my_name (left my_role done); sent = refl; after = record { own = rw (at_set j true s.down); heard = A } }

    match_up : Match (Up j) rises
    unfolding rule field_rule sends_of
    match_up = record
        { like = left my_name (left my_role done); sent = refl; after = record { own = rw (at_set j false s.down); heard = A } }

    match_fetch : (k p : ℕ) → fetchable T s k p ≡ true → Match (Fetch j k p) (fetched k p (s.db k p))
    unfolding rule field_rule sends_of fetchable
    match_fetch k p h =
        let its-name : not (no_peer T.n k) ≡ true = search and_l in
        let its-role : T.honest k ≡ true = search (and_l, and_r) in
        let is_up : not (s.down k) ≡ true = search (and_l, and_r) in
        let closed : ltb p (s.current k) ≡ true = search (and_l, and_r) in
        record {
          like = left my_name
              (keep (keep (right (rows_in_lem T s G k p)
              (left my_role
              (left (neg (T.honest k) its-role)
              (keep (left (not-true _ is_up) (keep (left (neg (ltb p (s.current k)) closed) done)))))))));
          sent = refl;
          after = record { own = rw (own_rows_lem j p (s.db k p) s.db); heard = A };
        }

    -- one hash more, heard on both sides
    heard_more : (k p B : ℕ) (l q C : ℕ) → s.to_back j ≤ q → is_in (Hash l q C) (enter (Hash k p B) H) ≡ add4 j k p B s.heard j l q C
    unfolding same_entry add3
    heard_more k p B l q C d = in_enter (Hash l q C) (Hash k p B) H ∙ ap (λ (z : Bool). (eqb l k && (eqb q p && eqb C B)) || z) (A l q C d)
        ∙ sym (ap (λ (f : ℕ → ℕ → ℕ → Bool). f l q C) (own4 j k p B s.heard))

    match_hear : (e : ℕ) → let a = entry_at s.bag e in is_hash a ≡ true → Match (Hear j e) (told (signer_of a) (period_of a) (board_of a))
    unfolding rule field_rule sends_of
    match_hear e h =
        let a = entry_at s.bag e in
        let k = signer_of a in
        let p = period_of a in
        let B = board_of a in
        let fit : Peer T k × ((p < T.periods) × (B < 2 ^ T.items)) = G.bag.entries (Hash k p B) (hash_in_lem s.bag e h) in
        let no_period_lem : no_period T.periods p ≡ false = rw (lt-ltb p T.periods fit.1.0) in
        let no_board_lem : no_board T.items B ≡ false = rw (lt-ltb B (2 ^ T.items) fit.1.1) in
        record {
          like = left my_name
              (left my_role
              (right (a_peer T k fit.0) (right no_period_lem (right no_board_lem (keep (left (neg (is_hash a) h) (keep full_right)))))));
          sent = refl;
          after = record { own = refl; heard = heard_more k p B };
        }

    -- a step of j's that passes, with what it brings
    brings : (f : ℕ → Step) (i : ℕ) (t : Bool) (m n : Message) → when (eqb i j && t) m ≡ some n → (t ≡ true → Match (f j) m) → Match (f i) n
    brings f i t m n e g =
        let both = when_some (eqb i j && t) m n e in
        subst (λ (z : Message). Match (f i) z) both.1
        (subst (λ (z : ℕ). Match (f z) m) (sym (eqb-true i j (and_l (eqb i j) t both.0))) (g (and_r (eqb i j) t both.0)))

    -- and an act of its own
    acts : (f : ℕ → Step) (i : ℕ) (m n : Message) → when (eqb i j) m ≡ some n → Match (f j) m → Match (f i) n
    acts f i m n e g = let both = when_some (eqb i j) m n e in subst (λ (z : Message). Match (f i) z) both.1
        (subst (λ (z : ℕ). Match (f z) m) (sym (eqb-true i j both.0)) g)

    -- every step that passes j a message
    pub matched : (st : Step) (n : Message) → passed T j s st ≡ some n → Match st n
    unfolding passed
    matched (Hand i x) n e = brings (λ i. Hand i x) i (s.posted x) (handed x) n e (match_hand x)
    matched (Sign i x) n e = acts (λ i. Sign i x) i (signs x) n e (match_sign x)
    matched (Take i k p x) n e = brings (λ i. Take i k p x) i _ (taken k p x) n e
        (λ h. match_take k p x (and_r (not (no_peer T.n k)) _ h))
    matched (Share i x) n e = acts (λ i. Share i x) i (shares x) n e (match_share x)
    matched (Close i) n e = acts (λ i. Close i) i closes n e match_close
    matched (Fetch i k p) n e = brings (λ i. Fetch i k p) i (fetchable T s k p) (fetched k p (s.db k p)) n e (match_fetch k p)
    matched (SendHash i p) n e = acts (λ i. SendHash i p) i (hashes p) n e (match_hash p)
    matched (Hear i a) n e = brings (λ i. Hear i a) i (is_hash (entry_at s.bag a)) _ n e (match_hear a)
    matched (Back i) n e = acts (λ i. Back i) i backs n e match_back
    matched (Down i) n e = acts (λ i. Down i) i falls n e match_down
    matched (Up i) n e = acts (λ i. Up i) i rises n e match_up
    matched (Post x) n e = absurd (none_some n e)
    matched (Receipt p x) n e = absurd (none_some n e)
    matched (Publish a) n e = absurd (none_some n e)
    matched (FalseSignature i p x) n e = absurd (none_some n e)
    matched (FalseShare i p x) n e = absurd (none_some n e)
    matched (FalseHash i p B) n e = absurd (none_some n e)
    matched (FalseBacking i p B) n e = absurd (none_some n e)
    matched (ClearHashes p) n e = absurd (none_some n e)

    -- a step that passes none, where it is not refused: j sends nothing, and its part stays
    pub record Stays (st : Step) : Type 0 where
      pub silent : sends_of T j s st ≡ none
      pub still : Part (rule T s st).effect j b

    -- it is another's
    others : (i : ℕ) → eqb i j ≡ false → eqb j i ≡ false
    others i e = eqb_sym j i ∙ e

    anothers : {A : Type 0} (i : ℕ) (m : A) → when (eqb i j) m ≡ none → eqb j i ≡ false
    anothers i m e = others i (when-none (eqb i j) m e)

    -- since what it brings is outside
    barred : {A : Type 0} (i : ℕ) (t : Bool) (m : A) → when (eqb i j && t) m ≡ none → t ≡ true → eqb j i ≡ false
    barred i t m e h = others i (is_false (eqb i j) (λ u. split (and_i (eqb i j) t u h) (when-none (eqb i j && t) m e)))

    -- since j is honest
    falsely : (i : ℕ) → T.honest i ≡ false → eqb i j ≡ false
    falsely i d = is_false (eqb i j) (λ u. split (subst (λ (z : ℕ). T.honest z ≡ true) (sym (eqb-true i j u)) honest) d)

    nothing : {A : Type 0} (i : ℕ) (m : A) → eqb i j ≡ false → when (eqb i j) m ≡ none
    unfolding when
    nothing i m e = rw e

    pub stays : (st : Step) → passed T j s st ≡ none → Clear T s st → Stays st
    unfolding passed rule sends_of fetchable
    stays (Post x) e c = record { silent = refl; still = record { own = refl; heard = A } }
    stays (Hand i x) e c = record {
      silent = refl;
      still = record
          { own = rw (still3 i j (barred i (s.posted x) (handed x) e (search judged)) (s.current i) x s.held); heard = A };
    }
    stays (Sign i x) e c =
        let other = when-none (eqb i j) (signs x) e in
        record {
          silent = nothing i _ other;
          still = record { own = rw (still4 i j (others i other) (s.current i) x i s.db); heard = A };
        }
    stays (Take i k p x) e c =
        let there : not (no_peer T.n k) && s.signed k p x ≡ true = and_i _ _ (not_i (no_peer T.n k) (λ u. split u c.1.0))
        (search judged) in
        record { silent = refl; still = record { own = rw (still4 i j (barred i _ (taken k p x) e there) p x k s.db); heard = A } }
    stays (Share i x) e c =
        let other = when-none (eqb i j) (shares x) e in
        record {
          silent = nothing i _ other;
          still = record
              { own = rw (still3 i j (others i other) (s.current i) x s.shared); heard = A };
        }
    stays (Receipt p x) e c = record { silent = refl; still = record { own = refl; heard = A } }
    stays (Close i) e c = record
        { silent = refl; still = record { own = rw (still_set i j (anothers i closes e) (s.current i + 1) s.current); heard = A } }
    stays (Fetch i k p) e c =
        let its-name : not (no_peer T.n k) ≡ true = not_i _ (λ u. split u c.1.0) in
        let is_up : not (s.down k) ≡ true = not_i _ (λ u. split u c.1.1.1.1.1.1.0) in
        let closed : ltb p (s.current k) ≡ true = not-false _ c.1.1.1.1.1.1.1.1.0 in
        let there : fetchable T s k p ≡ true = and_i _ _ its-name
        (and_i _ _ (not-false (T.honest k) c.1.1.1.1.0) (and_i _ _ is_up closed)) in
        record {
          silent = refl;
          still = record {
            own = rw (still_rows i j (barred i (fetchable T s k p) (fetched k p (s.db k p)) e there) p (s.db k p) s.db);
            heard = A;
          };
        }
    stays (SendHash i p) e c = record { silent = nothing i _ (when-none (eqb i j) (hashes p) e); still = record { own = refl; heard = A } }
    stays (Hear i a) e c =
        let other = barred i (is_hash (entry_at s.bag a)) _ e (not-false _ c.1.1.1.0) in
        record {
          silent = refl;
          still = record {
            own = refl;
            heard = rw (still4 i j other (signer_of (entry_at s.bag a)) (period_of (entry_at s.bag a)) (board_of (entry_at s.bag a))
                s.heard) A;
          };
        }
    stays (Back i) e c =
        let other = when-none (eqb i j) backs e in
        let same = still_set i j (others i other) (s.to_back i + 1) s.to_back in
        record { silent = nothing i _ other; still = record { own = rw same; heard = rw same A } }
    stays (Publish a) e c = record { silent = refl; still = record { own = refl; heard = A } }
    stays (FalseSignature i p x) e c = record { silent = nothing i _ (falsely i (search)); still = record { own = refl; heard = A } }
    stays (FalseShare i p x) e c =
        let other = falsely i (search) in
        record { silent = nothing i _ other; still = record { own = rw (still3 i j (others i other) p x s.shared); heard = A } }
    stays (FalseHash i p B) e c = record { silent = nothing i _ (falsely i (search)); still = record { own = refl; heard = A } }
    stays (FalseBacking i p B) e c = record { silent = nothing i _ (falsely i (search)); still = record { own = refl; heard = A } }
    stays (Down i) e c = record
        { silent = refl; still = record { own = rw (still_set i j (anothers i falls e) true s.down); heard = A } }
    stays (Up i) e c = record { silent = refl; still = record { own = rw (still_set i j (anothers i rises e) false s.down); heard = A } }
    stays (ClearHashes q) e c = record { silent = refl; still = record { own = refl; heard = λ k p B d. A k p B d ∙ kept k p B d } }
      where
        kept : (k p B : ℕ) → s.to_back j ≤ p → s.heard j k p B ≡ unheard q s.heard j k p B
        kept k p B d = sym (heard_else T q s.heard j k p B
            (ne_eqb p q (λ u. absurd (omega (arith, d, u, backed T s.to_back q c.1.0 j honest peer)))))
