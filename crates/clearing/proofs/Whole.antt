-- A clear, whole: listed, numbered afresh, moved, cut.
use Prim.Native.Nat.{ℕ, ◌-◌, ◌<◌, ◌≤◌}
use native.Mathlib.Decide.{dec_lt}
use native.Mathlib.Omega.{arith}
use mathlib.Core.Bool.{Bool, true, false, ◌&&◌}
use mathlib.Core.List.{List}
use mathlib.Core.Path.{◌≡◌, refl, sym, ap, ap₂, subst, fun_ext, ◌∙◌}
use mathlib.Core.Logic.{◌⊎◌, inl, inr}
use lib.Dec.{ltb}
use lib.ListN.{length, take, get_or}
use lib.Seq.{ext_get_or, length-take-le, get_or-take}
use borrow.Author.Tests.{ltb-true}
use Rattle.base.specs.Bytes.{byte_at}
use Rattle.base.proofs.Truth.{either}
use Rattle.rules.specs.declared.Entry.{Entry}
use Rattle.rules.specs.Bag.{without_hashes, no_entry, entry_at as nth}
use Rattle.state.specs.declared.Fact.TheVariants.{Heard}
use Rattle.state.specs.Layout.{entries}
use Rattle.state.specs.Contents.{Contents, contents, Canon, Holds, bag_on}
use Rattle.state.specs.Cleared.{kept, afresh, hearing, with_bag, cleared}
use Rattle.state.proofs.Encode.{bag_length}
use Rattle.state.proofs.Cleared.{kept_at, kept-length}
use Rattle.clearing.specs.Moves.{Numbers, Rising, Moved}

with_twice : (a : List Entry) (d : Contents) (b : List Entry) → with_bag b (with_bag a d) ≡ with_bag b d
unfolding with_bag
with_twice a d b = refl

-- heard numbers replaced leave the bag
hearing_bag : (s t : List ℕ) (H : ℕ → ℕ → Bool) → Holds t (hearing H (contents s)) → bag_on t ≡ bag_on s
unfolding hearing
hearing_bag s t H h = ap (λ d. d.bag) h.says

module _ (q : ℕ) (s old : List ℕ) (n : ℕ) (c : Canon s) (N : Numbers q (bag_on s) old n) where
  from : (e : ℕ) → e < n → (e ≤ byte_at old e) × (byte_at old e < length (bag_on s))
  from e l =
      let w = kept_at q 0 (bag_on s) e (omega (arith, N.many)) in
      (omega (arith, N.each e l, w.from), omega (arith, N.each e l, w.below))

  few : n ≤ length (bag_on s)
  few = go (dec_lt 0 n)
    where
      go : Dec (0 < n) → n ≤ length (bag_on s)
      go (yes l) = omega (arith, from (n - 1) (omega (arith, l)))
      go (no l) = omega (arith, l)

  rising : Rising n old (length (bag_on s))
  rising = record {
    few = omega (arith, few, bag_length s, c.counted);
    from = λ e l. (from e l).0;
    below = λ e l. (from e l).1;
  }

  -- what each part asks

  pub to_renumber : Rising n old entries
  to_renumber = record {
    few = rising.few;
    from = rising.from;
    below = λ e l. omega (arith, rising.below e l, bag_length s, c.counted);
  }

  module _ (t : List ℕ) (H : ℕ → ℕ → Bool) (h : Holds t (hearing H (contents s))) where
    pub to_move : Rising n old (length (bag_on t))
    to_move = subst (λ b. Rising n old (length b)) (sym (hearing_bag s t H h)) rising

    pub to_cut : (u : List ℕ) → Moved t u old n → n ≤ length (bag_on u)
    to_cut u M = omega (arith, M.long, few, ap length (hearing_bag s t H h))

  -- the entries that stay, in their order
  entries-kept : (t u : List ℕ) (H : ℕ → ℕ → Bool) → Holds t (hearing H (contents s)) → Moved t u old n
      → take n (bag_on u) ≡ without_hashes q (bag_on s)
  entries-kept t u H h M =
      let short = length-take-le n (bag_on u) (to_cut t H h u M) in
      ext_get_or no_entry (take n (bag_on u)) (without_hashes q (bag_on s)) (short ∙ N.many ∙ kept-length q 0 (bag_on s)) (λ e l.
      let m : e < n = omega (arith, short) in
      let w = kept_at q 0 (bag_on s) e (omega (arith, N.many)) in
      get_or-take n (bag_on u) e no_entry m ∙ M.moved e m ∙ ap (λ b. nth b (byte_at old e)) (hearing_bag s t H h)
      ∙ ap (nth (bag_on s)) {x = byte_at old e} {y = get_or (kept q (bag_on s)) e 0 - 0} (omega (arith, N.each e m)) ∙ sym w.entry)

  -- what is heard, by the numbers listed
  same_heard : (j e : ℕ) → afresh n (byte_at old) (contents s).has j e
      ≡ afresh (length (kept q (bag_on s))) (λ k. get_or (kept q (bag_on s)) k 0) (contents s).has j e
  unfolding afresh
  same_heard j e = go (either (ltb e n)) ∙ ap (λ (m : ℕ). ltb e m && (contents s).has (Heard j (get_or (kept q (bag_on s)) e 0))) N.many
    where
      go : (ltb e n ≡ true) ⊎ (ltb e n ≡ false)
          → (ltb e n && (contents s).has (Heard j (byte_at old e))) ≡ (ltb e n && (contents s).has (Heard j (get_or (kept q (bag_on s)) e 0)))
      go (inl t) = ap (λ (x : ℕ). ltb e n && (contents s).has (Heard j x)) (N.each e (ltb-true e n t))
      go (inr f) = rw f

  pub clear_done : (t u v : List ℕ) → Holds t (hearing (afresh n (byte_at old) (contents s).has) (contents s)) → Moved t u old n
      → Holds v (with_bag (take n (bag_on u)) (contents u)) → Holds v (cleared q (contents s))
  unfolding cleared
  clear_done t u v h M k =
      let H = afresh n (byte_at old) (contents s).has in
      let G = afresh (length (kept q (bag_on s))) (λ e. get_or (kept q (bag_on s)) e 0) (contents s).has in
      let same : H ≡ G = fun_ext (λ j. fun_ext (same_heard j)) in
      record {
        canon = k.canon;
        says =
            k.says
            ∙ ap (λ d. with_bag (take n (bag_on u)) d) M.holds.says
            ∙ with_twice (bag_on u) (contents t) (take n (bag_on u))
            ∙ ap (with_bag (take n (bag_on u))) h.says
            ∙ ap₂ (λ b J. with_bag b (hearing J (contents s))) (entries-kept t u H h M) same;
      }
