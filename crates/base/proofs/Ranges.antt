-- A test on the numbers below n, made by a range's `all` or `any`.
use Rattle.std.proofs.Common.{◌≡◌, ℕ, zero, suc, ◌+◌, Bool, List, Option, true, false, ◌&&◌, ◌||◌, refl, sym, ap, ap₂, ◌∙◌, arith}
use Rattle.std.proofs.iter.Yields.{nat_range_steps}
use Rattle.std.specs.Fn.{Called}
use Rattle.std.specs.Iterator.{YieldsThen}
use Rattle.std.specs.List.{FoldsTo, list_all, list_any, range_with_len}
use Rattle.std.specs.Option.{MatchOption}
use Rattle.std.specs.declared.ops.Range.{Range}
use denote.Param.Members.{Mut}
use Rattle.std.proofs.lemmas.Iterator.{YieldsList-from_range}
use Rattle.std.proofs.lemmas.Iterator.Search.{all_from_yields_List, any_from_yields_List}
use Rattle.base.specs.Below.{any, every}
use Rattle.base.proofs.Below.{every_parts, every_ext, any_parts, any_ext}

every-list : (f : ℕ → Bool) (n a : ℕ) → list_all f (range_with_len a n) ≡ every n (λ k. f (a + k))
unfolding every
every-list f zero a = refl
every-list f (suc n) a =
    ap₂ ◌&&◌ {x = f a} {y = f (a + 0)} (ap f (omega arith)) (every-list f n (a + 1) ∙ every_ext n _ (λ k. f (a + (1 + k))) (λ k l. ap f (omega arith)))
    ∙ sym (every_parts 1 n (λ k. f (a + k))) ∙ ap (λ (m : ℕ). every m (λ k. f (a + k))) {x = 1 + n} {y = suc n} (omega arith)

any-list : (f : ℕ → Bool) (n a : ℕ) → list_any f (range_with_len a n) ≡ any n (λ k. f (a + k))
unfolding any
any-list f zero a = refl
any-list f (suc n) a =
    ap₂ ◌||◌ {x = f a} {y = f (a + 0)} (ap f (omega arith)) (any-list f n (a + 1) ∙ any_ext n _ (λ k. f (a + (1 + k))) (λ k l. ap f (omega arith)))
    ∙ sym (any_parts 1 n (λ k. f (a + k))) ∙ ap (λ (m : ℕ). any m (λ k. f (a + k))) {x = 1 + n} {y = suc n} (omega arith)

module _ {F : Type 0} {g : Mut F (ℕ × Unit {0}) Bool} {u : Range ℕ} {f : F} {r : Bool} (test : ℕ → Bool) (n : ℕ) where
  -- what `(0..n).all(test)` answers
  pub all_in_range : (xs : List ℕ) × (o : Option ℕ) × (j : F) × YieldsThen nat_range_steps (record { start = 0; end = n }) xs o u × FoldsTo (λ p x q. Called g p (x, tt) true q) f xs j × MatchOption o (r ≡ true) (λ x. (r ≡ false) × ((h : F) × Called g j (x, tt) false h))
      → ((x : ℕ) (b : Bool) (q : F) → Called g f (x, tt) b q → (q ≡ f) × (b ≡ test x)) → r ≡ every n test
  all_in_range ran step = all_from_yields_List test u f r ran (YieldsList-from_range 0 n n refl (omega arith)) step ∙ every-list test n 0 ∙ every_ext n _ _ (λ k l. ap test (omega arith))

  -- what `(0..n).any(test)` answers
  pub any_in_range : (xs : List ℕ) × (o : Option ℕ) × (j : F) × YieldsThen nat_range_steps (record { start = 0; end = n }) xs o u × FoldsTo (λ p x q. Called g p (x, tt) false q) f xs j × MatchOption o (r ≡ false) (λ x. (r ≡ true) × ((h : F) × Called g j (x, tt) true h))
      → ((x : ℕ) (b : Bool) (q : F) → Called g f (x, tt) b q → (q ≡ f) × (b ≡ test x)) → r ≡ any n test
  any_in_range ran step = any_from_yields_List test u f r ran (YieldsList-from_range 0 n n refl (omega arith)) step ∙ any-list test n 0 ∙ any_ext n _ _ (λ k l. ap test (omega arith))
