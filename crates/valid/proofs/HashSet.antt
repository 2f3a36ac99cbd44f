-- The set of hash entries, bit by bit: none yet, one entry more, all.
use Prim.Native.Nat.{ℕ, ◌+◌, ◌*◌, ◌/◌, ◌%◌, ◌<◌, ◌≤◌}
use native.Mathlib.Decide.{ℕ_discrete, dec_lt}
use native.Mathlib.Omega.{arith}
use mathlib.Core.Bool.{Bool, true, false, ◌&&◌, ◌||◌, cond}
use mathlib.Core.List.{List}
use mathlib.Core.Path.{◌≡◌, refl, sym, ap, ◌∙◌}
use lib.Dec.{eqb, ltb}
use lib.ListN.{length, replicate, length-replicate}
use lib.Seq.{ext_get_or}
use borrow.Author.Tests.{lt-ltb, le-ltb, eq-eqb, ne_eqb}
use Rattle.base.specs.Bits.{bit}
use Rattle.base.specs.Bytes.{byte_at}
use Rattle.base.proofs.Bits.{bit-none, pack-bit, pack_ext}
use Rattle.base.proofs.Bytes.{zeros-at}
use Rattle.base.proofs.Truth.{and_false}
use Rattle.bits.specs.Row.{bit_at, put_bit, Bytes}
use Rattle.bits.proofs.Row.{length_put, bytes_put, bit_at_put}
use Rattle.rules.specs.declared.Entry.TheVariants.{Hash, Backing, Board}
use Rattle.rules.specs.Bag.{is_hash, no_entry, entry_at as nth_of}
use Rattle.state.specs.Layout.{entry_start, hash_kind}
use Rattle.state.specs.Entries.{entry_of}
use Rattle.base.specs.Tab.{tab}
use Rattle.state.specs.Contents.{count, entry_at, contents}
use Rattle.base.proofs.Tab.{length-tab, get_or-tab, get_or-tab-out}
use Rattle.valid.specs.Rows.{byte_of, mask}
use Rattle.valid.specs.Regions.{entry_bytes, hash_in}
use Rattle.valid.proofs.Only.{bit_in, same_test}

module _ (s : List ℕ) where
  -- the kind of entry e is that of a hash
  unfoldable pub hash_byte : ℕ → Bool
  hash_byte e = eqb (byte_at s (entry_start e)) hash_kind

  of_kind : (kind signer period board : ℕ) → is_hash (entry_of kind signer period board) ≡ eqb kind hash_kind
  unfolding entry_of
  of_kind kind signer period board = go (eqb kind 1) (eqb kind 2)
    where
      go : (b c : Bool) → is_hash (cond b (Hash signer period board) (cond c (Backing signer period board) (Board period board))) ≡ b
      go true c = refl
      go false true = refl
      go false false = refl

  abbrev hash_at : ℕ → Bool
  hash_at = hash_in (contents s).bag

  hash_at_lem : (e : ℕ) → hash_at e ≡ (ltb e (count s) && hash_byte e)
  unfolding hash_in contents hash_byte entry_at
  hash_at_lem e = go (dec_lt e (count s))
    where
      go : Dec (e < count s) → is_hash (nth_of (tab (count s) (entry_at s)) e) ≡ (ltb e (count s) && eqb (byte_at s (entry_start e)) hash_kind)
      go (yes l) = rw (get_or-tab (count s) (entry_at s) e no_entry l, lt-ltb e (count s) l) (of_kind (byte_at s (entry_start e)) _ _ _)
      go (no l) = rw (get_or-tab-out (count s) (entry_at s) e no_entry (omega arith), le-ltb e (count s) (omega arith))

  -- the bits of m are the hashes among the first e entries
  pub record HashesTo (e : ℕ) (m : List ℕ) : Type 0 where
    pub long : length m ≡ entry_bytes
    pub bytes : Bytes m
    pub each : (k : ℕ) → bit_at m k ≡ (ltb k e && hash_byte k)

  pub hashes_none : HashesTo 0 (replicate entry_bytes 0)
  unfolding bit_at
  hashes_none =
      record {
        long = length-replicate {A = ℕ} entry_bytes 0;
        bytes = λ b. omega (arith, zeros-at entry_bytes b);
        each =
            λ k. ap (λ (x : ℕ). bit x (k % 8)) (zeros-at entry_bytes (k / 8)) ∙ bit-none (k % 8)
            ∙ ap (λ (b : Bool). b && hash_byte k) (sym (le-ltb k 0 (omega arith)));
      }

  pub hashes_more : (e : ℕ) (m m' : List ℕ) → e < 256 → HashesTo e m
      → m' ≡ cond (eqb (byte_at s (entry_start e)) hash_kind) (put_bit m e) m → HashesTo (e + 1) m'
  unfolding hash_byte
  hashes_more e m m' l H t = rw t (go (hash_byte e) refl)
    where
      -- below e + 1 is below e, or e itself
      below : (b : Bool) (k : ℕ) → b ≡ hash_byte e → ((b && eqb e k) || (ltb k e && hash_byte k)) ≡ (ltb k (e + 1) && hash_byte k)
      below b k q = here (ℕ_discrete e k)
        where
          or-and : (x y : Bool) → (x && true) || (y && x) ≡ x
          or-and true y = refl
          or-and false true = refl
          or-and false false = refl

          here : Dec (e ≡ k) → ((b && eqb e k) || (ltb k e && hash_byte k)) ≡ (ltb k (e + 1) && hash_byte k)
          here (yes z) = rw (← z, eq-eqb e e refl, q, lt-ltb e (e + 1) (omega arith)) (or-and (hash_byte e) (ltb e e))
          here (no n) =
              rw (ne_eqb e k n, and_false b)
              (ap (λ (x : Bool). x && hash_byte k) (same_test k e k (e + 1) (λ r. omega arith) (λ r. omega arith)))

      go : (b : Bool) → b ≡ hash_byte e → HashesTo (e + 1) (cond b (put_bit m e) m)
      go true z =
          record {
            long = length_put m e ∙ H.long;
            bytes = bytes_put m e H.bytes;
            each = λ k. bit_at_put m e k (omega (arith, H.long)) ∙ ap (λ (x : Bool). eqb e k || x) (H.each k) ∙ below true k z;
          }
      go false z = record { long = H.long; bytes = H.bytes; each = λ k. H.each k ∙ below false k z }

  pub hashes_all : (e n : ℕ) (m : List ℕ) → HashesTo e m → n ≤ e → e ≤ n → n ≡ count s → m ≡ mask entry_bytes hash_at
  unfolding mask byte_of
  hashes_all e n m H a b c = ext_get_or 0 m _ (H.long ∙ sym (length-tab entry_bytes (byte_of hash_at))) (λ i l.
      let low : i < entry_bytes = omega (arith, H.long) in
      sym (pack-bit 8 (byte_at m i) (H.bytes i))
      ∙ pack_ext 8 (bit (byte_at m i)) (λ k. hash_at (8 * i + k)) (λ k q. sym (bit_in m i k q) ∙ at (8 * i + k))
      ∙ sym (get_or-tab entry_bytes (byte_of hash_at) i 0 low))
    where
      same : e ≡ n
      same = omega arith

      at : (k : ℕ) → bit_at m k ≡ hash_at k
      at k = H.each k ∙ ap (λ (x : ℕ). ltb k x && hash_byte k) (same ∙ c) ∙ sym (hash_at_lem k)
