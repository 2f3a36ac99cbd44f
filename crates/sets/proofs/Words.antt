-- A set that stands in whole bytes is the number in those bytes.
use Prim.Native.Nat.{ℕ, ◌+◌, ◌*◌, ◌<◌, ◌≤◌}
use native.Mathlib.Omega.{arith}
use mathlib.Core.Bool.{Bool, true, false}
use mathlib.Core.List.{List}
use mathlib.Core.Path.{◌≡◌, sym, ap, ◌∙◌}
use lib.Pow.{pow_pos}
use Rattle.base.specs.Bits.{bit, pack}
use Rattle.base.proofs.Bits.{bit-none, pack_ext, pack-bit}
use Rattle.base.proofs.Truth.{is_false, split}
use Rattle.bits.specs.Row.{bit_at}
use Rattle.bits.specs.Number.{num}
use Rattle.bits.proofs.Number.{num-pack}
use Rattle.header.specs.declared.Signers.{Signers}
use Rattle.header.specs.declared.Sharers.{Sharers}
use Rattle.state.specs.declared.Fact.{Fact}
use Rattle.state.specs.declared.Fact.TheVariants.{Posted, Shared, Receipted, Held, Known}
use Rattle.state.specs.Layout.{peers, periods, items, peer_bytes, item_bytes, posted_at, shared_at, receipted_at, held_at, database_at}
use Rattle.state.specs.Facts.{in_range, Within, is_cell, is_row, is_spot}
use Rattle.state.specs.Places.{place, cell, row, spot}
use Rattle.state.specs.Contents.{contents, Canon}
use Rattle.state.specs.Sets.{signers_of, sharers_of, held_of, posted_of}
use Rattle.sets.specs.Receipts.{receipted_of}
use Rattle.state.proofs.Ranges.{range_within, within_range, cell_within, within_cell, row_within, within_row, spot_within, within_spot}
use Rattle.state.proofs.Frame.{has-bit, has-none}

-- the facts f 0, f 1, .., whose bits stand in n bytes from o on
facts_in : (s : List ℕ) (n o : ℕ) (f : ℕ → Fact) → Canon s → ((k : ℕ) → k < 8 * n → Within (f k) × (place (f k) ≡ 8 * o + k))
    → num n s o ≡ pack (8 * n) (λ k. (contents s).has (f k))
facts_in s n o f c at =
    num-pack n s o c.bytes
    ∙ pack_ext (8 * n) (λ k. bit_at s (8 * o + k)) (λ k. (contents s).has (f k))
    (λ k l. ap (bit_at s) (sym (at k l).1) ∙ has-bit s (f k) (within_range (f k) (at k l).0))

pack-none : (n : ℕ) (f : ℕ → Bool) → ((k : ℕ) → f k ≡ false) → 0 ≡ pack n f
pack-none n f e = sym (pack_ext n f (bit 0) (λ k l. e k ∙ sym (bit-none k)) ∙ pack-bit n 0 (pow_pos n))

-- facts for which there is no room
facts_out : (s : List ℕ) (n : ℕ) (f : ℕ → Fact) → ((k : ℕ) → in_range (f k) ≡ true → ⊥) → 0 ≡ pack n (λ k. (contents s).has (f k))
facts_out s n f out = pack-none n (λ k. (contents s).has (f k)) (λ k. has-none s (f k) (is_false (in_range (f k)) (out k)))

module _ (s : List ℕ) (b : Bool) where
  module _ (j p i : ℕ) (e : b ≡ is_spot j p i) where
    pub signers_in_lem : Canon s → b ≡ true → (o w : ℕ) → o ≡ spot j p i → w ≡ num peer_bytes s (database_at + peer_bytes * o)
        → ◌≡◌ {A = Signers} (record { 0 = w }) (signers_of (contents s) j p i)
    unfolding signers_of
    signers_in_lem c y o w at q =
        let h = spot_within j p i (sym e ∙ y) in
        λ x. record {
          0 = (q ∙ facts_in s peer_bytes (database_at + peer_bytes * o) (λ k. Known j p i (k + 1)) c
              (λ k l. ((h.0, ((omega arith, omega arith), h.1)), omega arith))) x;
        }

    pub signers-out : b ≡ false → ◌≡◌ {A = Signers} (record { 0 = 0 }) (signers_of (contents s) j p i)
    unfolding signers_of
    signers-out n =
        λ x. record {
          0 = facts_out s peers (λ k. Known j p i (k + 1))
              (λ k r. let h = range_within (Known j p i (k + 1)) r in split (within_spot j p i (h.0, h.1.1)) (sym e ∙ n)) x;
        }

  module _ (p i : ℕ) (e : b ≡ is_cell p i) where
    pub sharers_in : Canon s → b ≡ true → (o w : ℕ) → o ≡ cell p i → w ≡ num peer_bytes s (shared_at + peer_bytes * o)
        → ◌≡◌ {A = Sharers} (record { 0 = w }) (sharers_of (contents s) p i)
    unfolding sharers_of
    sharers_in c y o w at q =
        let h = cell_within p i (sym e ∙ y) in
        λ x. record {
          0 = (q ∙ facts_in s peer_bytes (shared_at + peer_bytes * o) (λ k. Shared (k + 1) p i) c
              (λ k l. (((omega arith, omega arith), h), omega arith))) x;
        }

    pub sharers_out : b ≡ false → ◌≡◌ {A = Sharers} (record { 0 = 0 }) (sharers_of (contents s) p i)
    unfolding sharers_of
    sharers_out n =
        λ x. record {
          0 = facts_out s peers (λ k. Shared (k + 1) p i)
              (λ k r. split (within_cell p i (range_within (Shared (k + 1) p i) r).1) (sym e ∙ n)) x;
        }

  module _ (j p : ℕ) (e : b ≡ is_row j p) where
    pub held_in : Canon s → b ≡ true → (o w : ℕ) → o ≡ row j p → w ≡ num item_bytes s (held_at + item_bytes * o) → w ≡ held_of (contents s) j p
    unfolding held_of
    held_in c y o w at q =
        let h = row_within j p (sym e ∙ y) in
        q ∙ facts_in s item_bytes (held_at + item_bytes * o) (Held j p) c (λ k l. ((h.0, (h.1, l)), omega arith))

    pub held_out : b ≡ false → 0 ≡ held_of (contents s) j p
    unfolding held_of
    held_out n =
        facts_out s items (Held j p) (λ k r. let h = range_within (Held j p k) r in split (within_row j p (h.0, h.1.0)) (sym e ∙ n))

module _ (s : List ℕ) (p : ℕ) where
  pub receipts_in_lem : Canon s → p < periods → (w : ℕ) → w ≡ num item_bytes s (receipted_at + item_bytes * p) → w ≡ receipted_of (contents s) p
  unfolding receipted_of
  receipts_in_lem c h w q = q ∙ facts_in s item_bytes (receipted_at + item_bytes * p) (Receipted p) c (λ k l. ((h, l), omega arith))

  pub receipts_out : periods ≤ p → 0 ≡ receipted_of (contents s) p
  unfolding receipted_of
  receipts_out h = facts_out s items (Receipted p) (λ k r. absurd (omega (arith, h, (range_within (Receipted p k) r).0)))

pub posted_inside : (s : List ℕ) → Canon s → num item_bytes s posted_at ≡ posted_of (contents s)
unfolding posted_of
posted_inside s c = facts_in s item_bytes posted_at Posted c (λ k l. (l, omega arith))
