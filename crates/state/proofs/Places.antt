-- Laws of places: the bit of a fact gives the fact back, so facts in range are told apart by their bits.
use Prim.Native.Nat.{ℕ, ◌-◌, ◌*◌, ◌/◌, ◌<◌, ◌≤◌}
use native.Mathlib.Omega.{arith}
use mathlib.Core.Bool.{Bool, true, false, cond}
use mathlib.Core.Path.{◌≡◌, refl, sym, ap, ap₂, subst, ◌∙◌}
use lib.Dec.{eqb, ltb}
use borrow.Author.Tests.{eq-eqb, eqb-true, ltb-true, ltb-false, lt-ltb, le-ltb}
use Rattle.base.proofs.Truth.{iff}
use Rattle.state.specs.declared.Fact.{Fact}
use Rattle.state.specs.declared.Fact.TheVariants.{Posted, Signed, Shared, Receipted, Held, Known, Heard}
use Rattle.state.specs.Layout.{peers, items, signed_at, shared_at, receipted_at, held_at, database_at, heard_at, current_at}
use Rattle.state.specs.Facts.{same_fact, in_range, Within}
use Rattle.state.specs.Places.{row, spot, place, fact_at}
use Rattle.state.proofs.Ranges.{fact_self, fact_same, range_within}

-- what holds of each side of a test, where the test goes that way, holds of the choice
pub by_test : {A : Type 0} (P : A → Type 0) (a n : ℕ) (x y : A) → (a < n → P x) → (n ≤ a → P y) → P (cond (ltb a n) x y)
by_test P a n x y f g = go (ltb a n) refl
  where
    go : (b : Bool) → ltb a n ≡ b → P (cond b x y)
    go true e = f (ltb-true a n e)
    go false e = g (ltb-false a n e)

-- every fact in range stands before the numbers
pub place-lt : (f : Fact) → Within f → place f < 8 * current_at
place-lt (Posted i) h = omega arith
place-lt (Signed k p i) h = omega arith
place-lt (Shared k p i) h = omega arith
place-lt (Receipted p i) h = omega arith
place-lt (Held j p i) h = omega arith
place-lt (Known j p i k) h = omega arith
place-lt (Heard j e) h = omega arith

-- a bit before the numbers is that of a fact in range
pub at_place : (a : ℕ) → a < 8 * current_at → Within (fact_at a) × (place (fact_at a) ≡ a)
unfolding fact_at
at_place a l =
    by_test At a (8 * signed_at) _ _ (λ h. (omega arith, omega arith)) (λ h0.
    by_test At a (8 * shared_at) _ _ (λ h. (((omega arith, omega arith), (omega arith, omega arith)), omega arith)) (λ h1.
    by_test At a (8 * receipted_at) _ _ (λ h. (((omega arith, omega arith), (omega arith, omega arith)), omega arith)) (λ h2.
    by_test At a (8 * held_at) _ _ (λ h. ((omega arith, omega arith), omega arith)) (λ h3.
    by_test At a (8 * database_at) _ _ (λ h. (((omega arith, omega arith), (omega arith, omega arith)), omega arith)) (λ h4.
    by_test At a (8 * heard_at) _ _ (λ h.
    (((omega arith, omega arith), ((omega arith, omega arith), (omega arith, omega arith))), omega arith)) (λ h5.
    (((omega arith, omega arith), omega arith), omega arith)))))))
  where
    At : Fact → Type 0
    At f = Within f × (place f ≡ a)

pub ap₃ : {A B C D : Type 0} (f : A → B → C → D) {a a' : A} {b b' : B} {c c' : C} → a ≡ a' → b ≡ b' → c ≡ c' → f a b c ≡ f a' b' c'
ap₃ f p q r = λ i. f (p i) (q i) (r i)

ap₄ : {A B C D E : Type 0} (f : A → B → C → D → E) {a a' : A} {b b' : B} {c c' : C} {d d' : D} → a ≡ a' → b ≡ b'
    → c ≡ c' → d ≡ d' → f a b c d ≡ f a' b' c' d'
ap₄ f p q r s = λ i. f (p i) (q i) (r i) (s i)

-- the kinds in the order of their bits: n begins the next kind
pub before : {A : Type 0} (a n : ℕ) (x y z : A) → a < n → x ≡ z → cond (ltb a n) x y ≡ z
before a n x y z h e = rw (lt-ltb a n h) e

pub after : {A : Type 0} (a n : ℕ) (x y z : A) → n ≤ a → y ≡ z → cond (ltb a n) x y ≡ z
after a n x y z h e = rw (le-ltb a n h) e

-- the fact that stands at a fact's bit is that fact
pub fact_at_lem : (f : Fact) → Within f → fact_at (place f) ≡ f
unfolding fact_at
fact_at_lem (Posted i) h =
    let a = place (Posted i) in
    before a (8 * signed_at) _ _ _ (omega arith) (ap Posted (omega arith))
fact_at_lem (Signed k p i) h =
    let a = place (Signed k p i) in
    after a (8 * signed_at) _ _ _ (omega arith) (
    before a (8 * shared_at) _ _ _ (omega arith) (ap₃ Signed (omega arith) (omega arith) (omega arith)))
fact_at_lem (Shared k p i) h =
    let a = place (Shared k p i) in
    after a (8 * signed_at) _ _ _ (omega arith) (
    after a (8 * shared_at) _ _ _ (omega arith) (
    before a (8 * receipted_at) _ _ _ (omega arith) (ap₃ Shared (omega arith) (omega arith) (omega arith))))
fact_at_lem (Receipted p i) h =
    let a = place (Receipted p i) in
    after a (8 * signed_at) _ _ _ (omega arith) (
    after a (8 * shared_at) _ _ _ (omega arith) (
    after a (8 * receipted_at) _ _ _ (omega arith) (
    before a (8 * held_at) _ _ _ (omega arith) (ap₂ Receipted (omega arith) (omega arith)))))
fact_at_lem (Held j p i) h =
    let a = place (Held j p i) in
    after a (8 * signed_at) _ _ _ (omega arith) (
    after a (8 * shared_at) _ _ _ (omega arith) (
    after a (8 * receipted_at) _ _ _ (omega arith) (
    after a (8 * held_at) _ _ _ (omega arith) (
    before a (8 * database_at) _ _ _ (omega arith) (ap₃ Held (omega arith) (omega arith) (omega arith))))))
fact_at_lem (Known j p i k) h =
    let a = place (Known j p i k) in
    let item : (a - 8 * database_at) / peers ≡ spot j p i = omega arith in
    let period : (a - 8 * database_at) / peers / items ≡ row j p = omega arith in
    after a (8 * signed_at) _ _ _ (omega arith) (
    after a (8 * shared_at) _ _ _ (omega arith) (
    after a (8 * receipted_at) _ _ _ (omega arith) (
    after a (8 * held_at) _ _ _ (omega arith) (
    after a (8 * database_at) _ _ _ (omega arith) (
    before a (8 * heard_at) _ _ _ (omega arith) (ap₄ Known (omega arith) (omega arith) (omega arith) (omega arith)))))))
fact_at_lem (Heard j e) h =
    let a = place (Heard j e) in
    after a (8 * signed_at) _ _ _ (omega arith) (
    after a (8 * shared_at) _ _ _ (omega arith) (
    after a (8 * receipted_at) _ _ _ (omega arith) (
    after a (8 * held_at) _ _ _ (omega arith) (
    after a (8 * database_at) _ _ _ (omega arith) (
    after a (8 * heard_at) _ _ _ (omega arith) (
    ap₂ Heard (omega arith) (omega arith)))))))

-- so facts in range are told apart by their bits

place_same : (f g : Fact) → Within f → Within g → place f ≡ place g → f ≡ g
place_same f g p q e = sym (fact_at_lem f p) ∙ ap fact_at e ∙ fact_at_lem g q

pub same_place : (f g : Fact) → in_range f ≡ true → in_range g ≡ true → eqb (place f) (place g) ≡ same_fact g f
same_place f g p q =
    iff _ _
    (λ e. subst (λ (x : Fact). same_fact g x ≡ true)
    (place_same g f (range_within g q) (range_within f p) (sym (eqb-true (place f) (place g) e))) (fact_self g))
    (λ e. eq-eqb (place f) (place g) (ap place (sym (fact_same g f e))))
