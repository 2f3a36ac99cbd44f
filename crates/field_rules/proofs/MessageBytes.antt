-- What is written of a message reads as that message: so the box that is fed with bytes is the box that is fed with
-- messages. And what is sent is told apart by its bytes.
use Prim.Native.Nat.{ℕ, zero, suc, ◌+◌, ◌*◌, ◌/◌, ◌%◌, ◌≤◌, ◌<◌}
use native.Mathlib.Omega.{arith}
use mathlib.Core.Bool.{Bool, true, false, ◌&&◌}
use mathlib.Core.List.{List, [], ◌∷◌, ◌++◌}
use mathlib.Core.Option.{Option, none, some}
use mathlib.Core.Path.{◌≡◌, refl, sym, ap, ◌∙◌, fun_ext}
use mathlib.Core.Logic.{◌⊎◌, inl, inr}
use lib.Dec.{ltb}
use lib.ListN.{length, length-append}
use borrow.Author.Tests.{eq-eqb, ne_eqb, ltb-true, ltb-false}
use Rattle.base.specs.Bits.{bit, member, pack}
use Rattle.base.specs.Bytes.{byte_at, number_at}
use Rattle.base.specs.Tab.{tab}
use Rattle.base.proofs.Truth.{either, is_false}
use Rattle.base.proofs.Bits.{bit-pack, bit_high, pack-lt}
use Rattle.base.proofs.Tab.{length-tab, get_or-tab}
use Rattle.rules.specs.Fields.{of}
use Rattle.rules.specs.Form.{all_zero}
use Rattle.form.specs.Written.{bytes_of}
use Rattle.form.proofs.Written.{board-read}
use Rattle.field_rules.specs.Message.{Message, handed, taken, fetched, told, signs, shares, closes, hashes, backs, falls, rises, Sent, signature, share, hash, backing, row_items, row_peers}
use Rattle.field_rules.specs.MessageBytes.{to, reading, choose, rows_in, read_message, read_step, signers_of, row_byte, message_bytes, sent_bytes, read_sent, is_brought, read_as, InBytes, SentInBytes}
use Rattle.field_rules.specs.BoxIn.{InPlace}

-- the rows of a fetch

-- what is past the first part
at_past : (a b : List ℕ) (i : ℕ) → byte_at (a ++ b) (length a + i) ≡ byte_at b i
at_past [] b i = ap (byte_at b) {x = 0 + i} {y = i} (omega arith)
at_past (c ∷ a) b i = ap (byte_at (c ∷ (a ++ b))) {x = length (c ∷ a) + i} {y = suc (length a + i)} (omega arith) ∙ at_past a b i

module _ (rows : ℕ → ℕ → Bool) where
  -- both bytes of a set
  high_byte : (x : ℕ) → row_byte rows (2 * x) ≡ signers_of rows x / 256
  unfolding row_byte
  high_byte x = rw (eq-eqb (2 * x % 2) 0 (omega arith)) (ap (λ (y : ℕ). signers_of rows y / 256) {x = 2 * x / 2} {y = x} (omega arith))

  low_byte : (x : ℕ) → row_byte rows (2 * x + 1) ≡ signers_of rows x % 256
  unfolding row_byte
  low_byte x = rw (ne_eqb ((2 * x + 1) % 2) 0 (λ e. absurd (omega (arith, e))))
      (ap (λ (y : ℕ). signers_of rows y % 256) {x = (2 * x + 1) / 2} {y = x} (omega arith))

  small_set : (x : ℕ) → signers_of rows x < 65536
  unfolding signers_of
  small_set x = pack-lt row_peers (λ k. rows x (k + 1))

  module _ (head : List ℕ) (size : length head ≡ 13) where
    abbrev fetch : List ℕ
    fetch = head ++ tab (2 * row_items) (row_byte rows)

    -- byte i of the rows stands after the thirteen
    row_byte_lem : (i : ℕ) → i < 2 * row_items → byte_at fetch (13 + i) ≡ row_byte rows i
    row_byte_lem i l =
        ap (λ (n : ℕ). byte_at fetch (n + i)) (sym size) ∙ at_past head (tab (2 * row_items) (row_byte rows)) i
        ∙ get_or-tab (2 * row_items) (row_byte rows) i 0 l

    set-read : (x : ℕ) → x < row_items → number_at fetch (13 + 2 * x) 2 ≡ signers_of rows x
    unfolding number_at
    set-read x l =
        let high = ap (byte_at fetch) {x = 13 + 2 * x + 0} {y = 13 + 2 * x} (omega arith) ∙ row_byte_lem (2 * x) (omega (arith, l))
        ∙ high_byte x in
        let low = ap (byte_at fetch) {x = 13 + 2 * x + 1} {y = 13 + (2 * x + 1)} (omega arith) ∙ row_byte_lem (2 * x + 1) (omega (arith, l))
        ∙ low_byte x in
        omega (arith, high, low)

    fetch_size_lem : length fetch ≡ 141
    fetch_size_lem = rw (length-append head (tab (2 * row_items) (row_byte rows)), size, length-tab (2 * row_items) (row_byte rows))

signer_read : (rows : ℕ → ℕ → Bool) (x l : ℕ) → ((k : ℕ) → rows x k ≡ true → (1 ≤ k) × (k ≤ row_peers))
    → member (signers_of rows x) l ≡ rows x l
unfolding member signers_of
signer_read rows x zero place = sym (is_false (rows x zero) (λ e. absurd (omega (arith, (place zero e).0))))
signer_read rows x (suc k) place = go (either (ltb k row_peers))
  where
    go : (ltb k row_peers ≡ true) ⊎ (ltb k row_peers ≡ false) → bit (pack row_peers (λ k. rows x (k + 1))) k ≡ rows x (suc k)
    go (inl e) = bit-pack row_peers (λ k. rows x (k + 1)) k (ltb-true k row_peers e) ∙ ap (rows x) {x = k + 1} {y = suc k} (omega arith)
    go (inr e) = bit_high row_peers (pack row_peers (λ k. rows x (k + 1))) k (pack-lt row_peers (λ k. rows x (k + 1))) (ltb-false k row_peers e)
        ∙ sym (is_false (rows x (suc k)) (λ r. absurd (omega (arith, ltb-false k row_peers e, (place (suc k) r).1))))

rows_read : (head : List ℕ) → length head ≡ 13 → (rows : ℕ → ℕ → Bool)
    → ((x l : ℕ) → rows x l ≡ true → (x < row_items) × ((1 ≤ l) × (l ≤ row_peers)))
    → rows_in (head ++ tab (2 * row_items) (row_byte rows)) ≡ rows
unfolding rows_in
rows_read head size rows place = fun_ext (λ x. fun_ext (λ l. go x l (either (ltb x row_items))))
  where
    go : (x l : ℕ) → (ltb x row_items ≡ true) ⊎ (ltb x row_items ≡ false)
        → (ltb x row_items && member (number_at (head ++ tab (2 * row_items) (row_byte rows)) (13 + 2 * x) 2) l) ≡ rows x l
    go x l (inl e) = rw (e, set-read rows head size x (ltb-true x row_items e)) (signer_read rows x l (λ k r. (place x k r).1))
    go x l (inr e) = rw e (sym (is_false (rows x l) (λ r. absurd (omega (arith, ltb-false x row_items e, (place x l r).0)))))

fetch_reads : (j k p : ℕ) (rows : ℕ → ℕ → Bool) → ((x l : ℕ) → rows x l ≡ true → (x < row_items) × ((1 ≤ l) × (l ≤ row_peers)))
    → read_message (message_bytes j (fetched k p rows)) ≡ to j (fetched k p rows)
unfolding read_message message_bytes number_at all_zero reading choose
fetch_reads j k p rows place =
    let head = bytes_of (of 8 j k p 0 0) in
    rw (fetch_size_lem rows head refl, rows_read head refl rows place)

pub reads_back : (j : ℕ) (m : Message) → InPlace m → InBytes m → read_as m (message_bytes j m) ≡ to j m
unfolding read_as is_brought read_message read_step message_bytes number_at all_zero reading choose
reads_back j (handed x) i b = refl
reads_back j (taken k p x) i b = refl
reads_back j (fetched k p rows) i b = fetch_reads j k p rows i
reads_back j (told k p B) i b = ap (λ (C : ℕ). to j (told k p C)) (board-read 10 j k p 0 B b)
reads_back j (signs x) i b = refl
reads_back j (shares x) i b = refl
reads_back j closes i b = refl
reads_back j (hashes p) i b = refl
reads_back j backs i b = refl
reads_back j falls i b = refl
reads_back j rises i b = refl

-- what is sent is read from its bytes: so two that differ have different bytes
pub sent_read : (j : ℕ) (o : Option Sent) → SentInBytes o → read_sent (sent_bytes j o) ≡ o
unfolding read_sent sent_bytes number_at
sent_read j none b = refl
sent_read j (some (signature p x)) b = refl
sent_read j (some (share p x)) b = refl
sent_read j (some (hash p B)) b = ap (λ (C : ℕ). some (hash p C)) (board-read 9 j 0 p 0 B b)
sent_read j (some (backing p B)) b = ap (λ (C : ℕ). some (backing p C)) (board-read 11 j 0 p 0 B b)
