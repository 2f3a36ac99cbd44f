-- What the code counts is what the definitions count: the items below m of a set, of the posts, of the receipts and of the bag.
use Prim.Native.Nat.{ℕ, ◌+◌, ◌*◌, ◌/◌, ◌%◌, ◌^◌, ◌≤◌, ◌<◌}
use native.Mathlib.Nat.{mod-lt, div-add-mod'}
use native.Mathlib.Omega.{arith}
use mathlib.Core.Bool.{Bool}
use mathlib.Core.List.{List, [], ◌∷◌}
use mathlib.Core.Path.{◌≡◌, refl, sym, ap, ◌∙◌}
use lib.Count as machine
use lib.ListN.{length}
use lib.Pow.{pow_pos}
use Rattle.base.specs.Bits.{bit, pack}
use Rattle.base.specs.Sums.{sum, how_many}
use Rattle.base.proofs.Bits.{bit-none, pack_ext, pack-bit, bit_low, bit-pack}
use Rattle.base.proofs.Masks.{shifted}
use Rattle.base.proofs.Sums.{how_many_ext, how_many_most, none_in, ones_counted, sum_first}
use Rattle.header.specs.declared.Head.{Head}
use Rattle.rules.specs.declared.Entry.{Entry}
use Rattle.rules.specs.declared.Entry.TheVariants.{Hash, Backing, Board}
use Rattle.rules.specs.Bag.{boards_in, entry_at}
use Rattle.figures.specs.declared.Totals.{Totals}
use Rattle.figures.specs.Totals.{Outside, receipt_count, items_on, totals_in}
use Rattle.figures.specs.Entries.{published_by, entry_items}

-- the three figures, each in its place
pub in_place : (h : Head) (o : Outside) (a b v : ℕ) → a ≡ how_many h.items o.posts
    → b ≡ receipt_count h.periods h.items o.receipts → v ≡ items_on h.items o.boards
    → ◌≡◌ {A = Totals} (record { posts = a; receipts = b; items = v }) (totals_in h o)
unfolding totals_in
in_place h o a b v posts receipts items = λ i. record { posts = posts i; receipts = receipts i; items = items i }

-- the bits below m: all of a number of 64 bits, and what is left of it

pub all_bits : (m x : ℕ) → m ≡ 64 → x < 2 ^ 64 → x ≡ pack m (bit x)
all_bits m x e l = rw e (sym (pack-bit 64 x l))

pub low_bits : (m x : ℕ) → m ≤ 64 → (m ≡ 64 → ⊥) → x % (1 * 2 ^ m % 2 ^ 64) ≡ pack m (bit x)
low_bits m x few d = rw (shifted 64 m (omega (arith, few, d))) (sym (same ∙ pack-bit m (x % 2 ^ m) small))
  where
    small : x % 2 ^ m < 2 ^ m
    small = mod-lt x (pow_pos m)

    parts : x ≡ x / 2 ^ m * 2 ^ m + x % 2 ^ m
    parts = sym (div-add-mod' x (2 ^ m))

    same : pack m (bit x) ≡ pack m (bit (x % 2 ^ m))
    same = pack_ext m (bit x) (bit (x % 2 ^ m)) (λ k q.
        ap (λ (y : ℕ). bit y k) parts ∙ bit_low m (x / 2 ^ m) (x % 2 ^ m) k small q)

pub some_left : (m : ℕ) → m ≤ 64 → (m ≡ 64 → ⊥) → 0 < 1 * 2 ^ m % 2 ^ 64
some_left m few d = rw (shifted 64 m (omega (arith, few, d))) (pow_pos m)

-- the machine counts them
pub set_counted : (m set v : ℕ) → m ≤ 64 → v ≡ pack m (bit set) → (machine.ones v ≡ how_many m (bit set)) × (machine.ones v ≤ 64)
set_counted m set v few e =
    let counted = ap machine.ones e ∙ ones_counted m (bit set) in
    (counted, omega (arith, counted, few, how_many_most m (bit set)))

-- a set of items, as the number of its bits
pub packed_counted : (S : ℕ → Bool) (m : ℕ) {set v : ℕ} → m ≤ 64 → set ≡ pack 64 S → v ≡ how_many m (bit set) → v ≡ how_many m S
packed_counted S m {set} {v} few e q =
    q ∙ how_many_ext m (bit set) S (λ k l. ap (λ (y : ℕ). bit y k) e ∙ bit-pack 64 S k (omega arith))

pub entry_counted : (m : ℕ) {x y : Entry} {set v : ℕ} → x ≡ y → set ≡ published_by x → v ≡ how_many m (bit set) → v ≡ entry_items m y
entry_counted m {x} {y} {set} {v} e q r = r ∙ ap (λ (b : ℕ). how_many m (bit b)) q ∙ ap (entry_items m) e

-- entry after entry, or board after board
module _ (m : ℕ) where
  pub nothing_published : how_many m (bit 0) ≡ 0
  nothing_published = none_in m (bit 0) bit-none

  first_apart : (a : Entry) (bag : List Entry) {v : ℕ} → sum (length bag) (λ e. entry_items m (entry_at bag e)) ≡ v
      → sum (length (a ∷ bag)) (λ e. entry_items m (entry_at (a ∷ bag) e)) ≡ entry_items m a + v
  first_apart a bag {v} e = sum_first (length bag) (λ i. entry_items m (entry_at (a ∷ bag) i)) ∙ ap (λ (w : ℕ). entry_items m a + w) e

  pub bag_counted : (bag : List Entry) → sum (length bag) (λ e. entry_items m (entry_at bag e)) ≡ items_on m (boards_in bag)
  unfolding boards_in items_on published_by sum
  bag_counted [] = refl
  bag_counted (Hash k p B ∷ bag) = first_apart (Hash k p B) bag (bag_counted bag) ∙ omega (arith, nothing_published)
  bag_counted (Backing k p B ∷ bag) = first_apart (Backing k p B) bag (bag_counted bag) ∙ omega (arith, nothing_published)
  bag_counted (Board p B ∷ bag) = first_apart (Board p B) bag (bag_counted bag)

  -- when all entries are passed
  pub bag_all : (bag : List Entry) (n v : ℕ) → n ≡ length bag → v ≡ sum n (λ i. entry_items m (entry_at bag i)) → v ≡ items_on m (boards_in bag)
  bag_all bag n v long q = q ∙ ap (λ (k : ℕ). sum k (λ i. entry_items m (entry_at bag i))) long ∙ bag_counted bag
