-- Laws of the season: what a table's first two bytes say, where its fields stand then, and how long its header is.
use Prim.Native.Nat.{ℕ, ◌+◌, ◌≤◌}
use native.Mathlib.Omega.{arith}
use mathlib.Core.Bool.{true, false, cond}
use mathlib.Core.List.{List, [], ◌∷◌}
use mathlib.Core.Logic.{◌⊎◌, inl, inr}
use mathlib.Core.Path.{◌≡◌, refl, sym, ap, ◌∙◌}
use lib.Dec.{eqb}
use lib.Seq.{get_or-append-add}
use borrow.Author.Tests.{eq-eqb, eqb-true}
use Rattle.base.specs.Bytes.{byte_at}
use Rattle.base.proofs.Truth.{either, is_false, and_i, and_l, and_r}
use Rattle.header.specs.declared.season.Season.{Season}
use Rattle.header.specs.declared.season.Season.TheVariants.{First, Second, Third}
use Rattle.header.specs.Season.{zero_then, season_of, fields_at, has_weights}
use Rattle.header.specs.Header.{header_size, field_of, peers_of, weight_count, header_ok}
use Rattle.header.proofs.Ranges.{peers_range}

-- the test on the first two bytes, by each of them

module _ (s : List ℕ) where
  pub not-zero : (next : ℕ) → (byte_at s 0 ≡ 0 → ⊥) → zero_then s next ≡ false
  not-zero next other = is_false (zero_then s next) (λ e. other (eqb-true (byte_at s 0) 0 (and_l (eqb (byte_at s 0) 0) _ e)))

  not_next : (next : ℕ) → (byte_at s 1 ≡ next → ⊥) → zero_then s next ≡ false
  not_next next other =
      is_false (zero_then s next) (λ e. other (eqb-true (byte_at s 1) next (and_r (eqb (byte_at s 0) 0) _ e)))

  zero_next : (next : ℕ) → byte_at s 0 ≡ 0 → byte_at s 1 ≡ next → zero_then s next ≡ true
  zero_next next zero-first e = and_i _ _ (eq-eqb (byte_at s 0) 0 zero-first) (eq-eqb (byte_at s 1) next e)

  -- and the season by them

  pub starts_otherwise : {a : ℕ} → a ≡ byte_at s 0 → (a ≡ 0 → ⊥) → First ≡ season_of s
  starts_otherwise a-is other = rw (not-zero 2 (λ e. other (a-is ∙ e)), not-zero 3 (λ e. other (a-is ∙ e)))

  pub goes_on_otherwise : {b : ℕ} → b ≡ byte_at s 1 → (b ≡ 2 → ⊥) → (b ≡ 3 → ⊥) → First ≡ season_of s
  goes_on_otherwise b-is not-2 not-3 = rw (not_next 2 (λ e. not-2 (b-is ∙ e)), not_next 3 (λ e. not-3 (b-is ∙ e)))

  pub zero-two : {a b : ℕ} → a ≡ byte_at s 0 → a ≡ 0 → b ≡ byte_at s 1 → b ≡ 2 → Second ≡ season_of s
  zero-two a-is zero-first b-is two-next = rw (zero_next 2 (sym a-is ∙ zero-first) (sym b-is ∙ two-next))

  pub zero-three : {a b : ℕ} → a ≡ byte_at s 0 → a ≡ 0 → b ≡ byte_at s 1 → b ≡ 3 → Third ≡ season_of s
  zero-three a-is zero-first b-is three-next =
      let three = sym b-is ∙ three-next in
      rw (not_next 2 (λ e. omega (arith, e, three)), zero_next 3 (sym a-is ∙ zero-first) three)

  -- by the test itself

  pub second-of : zero_then s 2 ≡ true → Second ≡ season_of s
  second-of e = rw e

  pub third_of : zero_then s 3 ≡ true → Third ≡ season_of s
  third_of e =
      zero-three refl (eqb-true (byte_at s 0) 0 (and_l (eqb (byte_at s 0) 0) _ e)) refl
      (eqb-true (byte_at s 1) 3 (and_r (eqb (byte_at s 0) 0) _ e))

  -- a table that does not start with 0 and 3 is of an older season, which has no weights
  pub older : zero_then s 3 ≡ false → has_weights (season_of s) ≡ false
  older e = rw e (go (either (zero_then s 2)))
    where
      go : (zero_then s 2 ≡ true) ⊎ (zero_then s 2 ≡ false) → has_weights (cond (zero_then s 2) Second First) ≡ false
      go (inl t) = rw t
      go (inr t) = rw t

-- what a season puts before the fields leaves room in a byte for the length of the header, and for the weights
pub fields-room : (x : Season) {at : ℕ} → at ≡ fields_at x → at ≤ 2
fields-room First at-is = omega arith
fields-room Second at-is = omega arith
fields-room Third at-is = omega arith

-- where a field stands, and how long the header is: for the two functions that read them

pub field_at : (s : List ℕ) (i : ℕ) {x : Season} {r at : ℕ} → x ≡ season_of s → at ≡ fields_at x → r ≡ byte_at s (at + i)
    → r ≡ field_of s i
unfolding field_of
field_at s i x-is at-is r-is = r-is ∙ ap (λ (k : ℕ). byte_at s (k + i)) (at-is ∙ ap fields_at x-is)

pub size_is : (s : List ℕ) {x : Season} {at count : ℕ} → x ≡ season_of s → at ≡ fields_at x → count ≡ weight_count s
    → at + 6 + count ≡ header_size s
unfolding header_size
size_is s x-is at-is count-is = omega (arith, at-is, ap fields_at x-is, count-is)

-- how many weights there are: none in older tables, and in the others one for each of up to 16 peers

module _ (s : List ℕ) where
  pub no_weights : has_weights (season_of s) ≡ false → weight_count s ≡ 0
  no_weights none = rw none

  pub for_each_peer : has_weights (season_of s) ≡ true → peers_of s ≤ 16 → weight_count s ≡ peers_of s
  for_each_peer some most = rw some (omega (arith, most))

-- of a table of the first season, of the second and of the third

module _ (s : List ℕ) (first : First ≡ season_of s) where
  pub first_field : (i : ℕ) → field_of s i ≡ byte_at s i
  unfolding field_of
  first_field i = rw (← first) (ap (byte_at s) (omega arith))

  pub first-size : header_size s ≡ 6
  unfolding header_size
  first-size = omega (arith, ap fields_at first, no_weights s (rw (← first)))

pub second-size : (s : List ℕ) → Second ≡ season_of s → header_size s ≡ 8
unfolding header_size
second-size s second = omega (arith, ap fields_at second, no_weights s (rw (← second)))

pub third-size : (s : List ℕ) → Third ≡ season_of s → header_size s ≡ 8 + weight_count s
unfolding header_size
third-size s third = omega (arith, ap fields_at third)

-- after the first two bytes the fields stand as they do in a table of the first season

pub later_field : (s : List ℕ) → fields_at (season_of s) ≡ 2 → (i : ℕ) → field_of s i ≡ byte_at s (2 + i)
unfolding field_of
later_field s at-2 i = ap (λ (at : ℕ). byte_at s (at + i)) at-2

pub second-field : (s : List ℕ) (i : ℕ) → field_of (0 ∷ 2 ∷ s) i ≡ byte_at s i
second-field s i = later_field (0 ∷ 2 ∷ s) refl i ∙ get_or-append-add (0 ∷ 2 ∷ []) s i 0

pub third-field : (s : List ℕ) (i : ℕ) → field_of (0 ∷ 3 ∷ s) i ≡ byte_at s i
third-field s i = later_field (0 ∷ 3 ∷ s) refl i ∙ get_or-append-add (0 ∷ 3 ∷ []) s i 0

-- a table that starts with 0 and goes on otherwise than with 2 or 3 has no peers
pub no_season : (s : List ℕ) → byte_at s 0 ≡ 0 → (byte_at s 1 ≡ 2 → ⊥) → (byte_at s 1 ≡ 3 → ⊥) → header_ok s ≡ false
no_season s zero-first not-2 not-3 =
    let first = goes_on_otherwise s refl not-2 not-3 in
    is_false (header_ok s) (λ ok. omega (arith, (peers_range s ok).0, first_field s first 0, zero-first))
