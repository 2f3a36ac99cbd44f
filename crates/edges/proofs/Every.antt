-- The cases of the table, for every table, text and two items.
use Prim.Native.Nat.{ℕ, ◌+◌, ◌-◌, ◌*◌, ◌≤◌, ◌<◌}
use native.Mathlib.Omega.{arith}
use mathlib.Core.Bool.{Bool, true, false, cond}
use mathlib.Core.List.{List}
use mathlib.Core.Path.{◌≡◌, refl, sym, ap, ◌∙◌}
use mathlib.Core.Logic.{◌⊎◌, inl, inr}
use lib.Dec.{eqb, ltb}
use lib.ListN.{length}
use borrow.Author.Tests.{eq-eqb, eqb-true, le-leb, le-ltb, ltb-true, ltb-false}
use Rattle.base.specs.Bytes.{between}
use Rattle.base.specs.Refusals.{first}
use Rattle.base.proofs.Truth.{either, split, is_false, iff, and_i, and_r}
use Rattle.base.proofs.Bytes.{between_true}
use Rattle.header.specs.Season.{zero_then}
use Rattle.header.specs.Header.{peers_of, threshold_of, total_weight, header_ok}
use Rattle.header.proofs.Seasons.{older, no_weights}
use Rattle.header.proofs.Weighing.{total_counted}
use Rattle.header.proofs.Ranges.{threshold_range}
use Rattle.header.proofs.TwoThirds.{threshold_rule}
use Rattle.ballot.specs.declared.item.Kind.{Kind}
use Rattle.ballot.specs.declared.item.Kind.TheVariants.{Vote, Audit, PlacedAudit, Cancellation}
use Rattle.ballot.specs.declared.item.Audits.{Audits}
use Rattle.ballot.specs.declared.item.Audits.TheVariants.{Bare, Placed, Either}
use Rattle.ballot.specs.declared.item.Item.{Item}
use Rattle.ballot.specs.Item.{ballot_of, kind_byte, place_of, good_if, read_audit, read_kind, read_item, reading_number}
use Rattle.ballot.specs.Table.{refusal}
use Rattle.ballot.proofs.Readings.{text_short}
use Rattle.clash.specs.Clash.{kinds_clash, items_clash}
use Rattle.edges.specs.Every.{EveryTable}

above : (table : List ℕ) → header_ok table ≡ true → 2 * total_weight table < 3 * threshold_of table
above table ok = threshold_rule (total_weight table) (threshold_of table) (threshold_range table ok).0

-- the header is judged first
pub header_refused : (table : List ℕ) → header_ok table ≡ false → refusal table ≡ 1
unfolding refusal first
header_refused table bad = rw bad

two_thirds_refused : (table : List ℕ) → 3 * threshold_of table ≤ 2 * total_weight table → refusal table ≡ 1
two_thirds_refused table low = header_refused table (is_false (header_ok table) (λ ok. omega (arith, low, above table ok)))

two_thirds_counted : (table : List ℕ) → zero_then table 3 ≡ false → 3 * threshold_of table ≤ 2 * peers_of table → refusal table ≡ 1
two_thirds_counted table older-table low =
    two_thirds_refused table (omega (arith, low, total_counted table (no_weights table (older table older-table))))

-- the number of a reading that is good where a test holds
good_number : (ok : Bool) (ballot : ℕ) (kind : Kind) → reading_number (good_if ok ballot kind) ≡ cond ok 0 3
good_number true ballot kind = refl
good_number false ballot kind = refl

-- the bytes after the kind byte, counted with those up to it
same_size : (low high long : ℕ) → 5 ≤ long → between low (long - 5) high ≡ between (5 + low) long (5 + high)
same_size low high long l = iff _ _
    (λ e. let b = between_true low (long - 5) high e in and_i _ _ (le-leb (5 + low) long (omega (arith, b.0)))
    (le-leb long (5 + high) (omega (arith, b.1))))
    (λ e. let b = between_true (5 + low) long (5 + high) e in and_i _ _ (le-leb low (long - 5) (omega (arith, b.0)))
    (le-leb (long - 5) high (omega (arith, b.1))))

-- a test on the length that no text shorter than five bytes passes decides, if it does so for the longer ones
sizes : (audits : Audits) (text : List ℕ) (ok : Bool) → (length text < 5 → ok ≡ false)
    → (5 ≤ length text → reading_number (read_item audits text) ≡ cond ok 0 3) → reading_number (read_item audits text) ≡ cond ok 0 3
sizes audits text ok short long = go (either (ltb (length text) 5))
  where
    go : (ltb (length text) 5 ≡ true) ⊎ (ltb (length text) 5 ≡ false) → reading_number (read_item audits text) ≡ cond ok 0 3
    go (inl e) = let l = ltb-true (length text) 5 e in ap reading_number (sym (text_short audits text l)) ∙ rw (short l)
    go (inr e) = long (ltb-false (length text) 5 e)

vote-read : (audits : Audits) (text : List ℕ) → kind_byte text ≡ 1 → 5 ≤ length text
    → reading_number (read_item audits text) ≡ cond (between 1 (length text - 5) 32) 0 3
unfolding read_item read_kind
vote-read audits text k l = rw (le-ltb (length text) 5 l, k) (good_number (between 1 (length text - 5) 32) _ _)

vote_sizes : (audits : Audits) (text : List ℕ) → kind_byte text ≡ 1
    → reading_number (read_item audits text) ≡ cond (between 6 (length text) 37) 0 3
vote_sizes audits text k = sizes audits text _
    (λ l. is_false (between 6 (length text) 37) (λ b. omega (arith, l, (between_true 6 (length text) 37 b).0)))
    (λ l. vote-read audits text k l ∙ ap (λ (b : Bool). cond b 0 3) (same_size 1 32 (length text) l))

-- an item of which n bytes stand after the kind byte
end_sizes : (audits : Audits) (text : List ℕ) (kind : Kind) (n : ℕ)
    → (5 ≤ length text → read_item audits text ≡ good_if (eqb (length text - 5) n) (ballot_of text) kind)
    → reading_number (read_item audits text) ≡ cond (eqb (length text) (5 + n)) 0 3
end_sizes audits text kind n good = sizes audits text _
    (λ l. is_false (eqb (length text) (5 + n)) (λ b. omega (arith, l, eqb-true (length text) (5 + n) b)))
    (λ l. ap reading_number (good l) ∙ good_number (eqb (length text - 5) n) _ kind ∙ ap (λ (b : Bool). cond b 0 3) (same l))
  where
    same : 5 ≤ length text → eqb (length text - 5) n ≡ eqb (length text) (5 + n)
    same l = iff _ _ (λ e. eq-eqb (length text) (5 + n) (omega (arith, eqb-true (length text - 5) n e)))
        (λ e. eq-eqb (length text - 5) n (omega (arith, eqb-true (length text) (5 + n) e)))

module _ (text : List ℕ) where
  audit-read : (audits : Audits) → kind_byte text ≡ 2 → 5 ≤ length text
      → read_item audits text ≡ read_audit audits (ballot_of text) (length text - 5) (place_of text)
  unfolding read_item read_kind
  audit-read audits k l = rw (le-ltb (length text) 5 l, k)

  cancellation-read : (audits : Audits) → kind_byte text ≡ 3 → 5 ≤ length text
      → read_item audits text ≡ good_if (eqb (length text - 5) 0) (ballot_of text) Cancellation
  unfolding read_item read_kind
  cancellation-read audits k l = rw (le-ltb (length text) 5 l, k)

  -- of either length: one test or the other
  either_sizes : kind_byte text ≡ 2 → reading_number (read_item Either text) ≡ cond (between 5 (length text) 6) 0 3
  either_sizes k = sizes Either text _
      (λ l. is_false (between 5 (length text) 6) (λ b. omega (arith, l, (between_true 5 (length text) 6 b).0)))
      (λ l. ap reading_number (audit-read Either k l) ∙ go l (either (eqb (length text - 5) 0)))
    where
      six : 5 ≤ length text → (length text ≡ 5 → ⊥) → eqb (length text - 5) 1 ≡ between 5 (length text) 6
      six l more = iff _ _
          (λ e. let n = eqb-true (length text - 5) 1 e in and_i _ _ (le-leb 5 (length text) l) (le-leb (length text) 6 (omega (arith, n))))
          (λ e. eq-eqb (length text - 5) 1 (omega (arith, more, (between_true 5 (length text) 6 e).1)))

      go : (l : 5 ≤ length text) → (eqb (length text - 5) 0 ≡ true) ⊎ (eqb (length text - 5) 0 ≡ false)
          → reading_number (read_audit Either (ballot_of text) (length text - 5) (place_of text)) ≡ cond (between 5 (length text) 6) 0 3
      go l (inl none) =
          let five : length text ≡ 5 = omega (arith, eqb-true (length text - 5) 0 none) in
          rw (none, five)
      go l (inr some) =
          let more : (length text ≡ 5 → ⊥) = λ e. split (eq-eqb (length text - 5) 0 (omega (arith, e))) some in
          rw some (good_number (eqb (length text - 5) 1) _ _ ∙ ap (λ (b : Bool). cond b 0 3) (six l more))

-- a vote beside another kind, on one ballot
beside : (a b : Item) → a.ballot ≡ b.ballot → kinds_clash a.kind b.kind ≡ true → items_clash a b ≡ true
beside a b e k = and_i _ _ (eq-eqb a.ballot b.ballot e) k

kinds : (n : ℕ) (kind : Kind) → (kind ≡ Cancellation → ⊥) → (kinds_clash (Vote n) kind ≡ true) × (kinds_clash kind (Vote n) ≡ true)
kinds n (Vote m) d = (refl, refl)
kinds n Audit d = (refl, refl)
kinds n (PlacedAudit p) d = (refl, refl)
kinds n Cancellation d = absurd (d refl)

none_with : (kind : Kind) → (kinds_clash Cancellation kind ≡ false) × (kinds_clash kind Cancellation ≡ false)
none_with (Vote m) = (refl, refl)
none_with Audit = (refl, refl)
none_with (PlacedAudit p) = (refl, refl)
none_with Cancellation = (refl, refl)

apart : (a b : Item) → kinds_clash a.kind b.kind ≡ false → items_clash a b ≡ false
apart a b k = is_false (items_clash a b) (λ t. split (and_r (eqb a.ballot b.ballot) _ t) k)

pub every-table : EveryTable
every-table = record {
  two_thirds = two_thirds_refused;
  two_thirds_counted = two_thirds_counted;
  votes = λ audits text n k. vote_sizes audits text k;
  audits = λ text k. end_sizes Bare text Audit 0 (audit-read text Bare k);
  placed-audits = λ text k. end_sizes Placed text (PlacedAudit (place_of text)) 1 (audit-read text Placed k);
  either_audits = either_sizes;
  cancellations = λ audits text k. end_sizes audits text Cancellation 0 (cancellation-read text audits k);
  votes_clash = λ a b n e k d. let q = kinds n b.kind d in (beside a b e (rw k q.0), beside b a (sym e) (rw k q.1));
  cancellations_do_not = λ a b k. let q = none_with b.kind in (apart a b (rw k q.0), apart b a (rw k q.1));
  audits_do_not = λ a b k l. apart a b (rw (k, l));
}
