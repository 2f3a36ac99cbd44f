-- The bytes of what comes to the field peer, and of what it sends: thirteen bytes as a step of the rehearsal has them,
-- with what the step points at filled in.
-- A fetch is followed by the other's database of the period: 64 sets of two bytes, high byte first, of which bit k - 1
-- is peer k.
use Rattle.std.specs.Prelude.{ℕ, ◌+◌, ◌*◌, ◌/◌, ◌%◌, ◌^◌, ◌<◌, Bool, true, false, cond, ◌&&◌, List, [], ◌∷◌, ◌++◌, eqb, ltb, length}
use Rattle.std.proofs.Math.Option.{Option, none, some}
use Rattle.base.specs.Bits.{member, pack}
use Rattle.base.specs.Bytes.{byte_at, number_at}
use Rattle.base.specs.Refusals.{form, name, number_of}
use Rattle.base.specs.Tab.{tab}
use Rattle.rules.specs.Fields.{of}
use Rattle.rules.specs.Form.{all_zero}
use Rattle.rules.specs.Table.{Table}
use Rattle.form.specs.Written.{bytes_of}
use Rattle.field_rules.specs.Box.{Box}
use Rattle.field_rules.specs.Message.{Message, handed, taken, fetched, told, signs, shares, closes, hashes, backs, falls, rises, Sent, signature, share, hash, backing, row_items, row_peers}
use Rattle.field_rules.specs.Rules.{Handled, handle}

-- reading

-- what bytes say: the peer that they name and what comes to it, or nothing of the form
pub data Reading : Type 0 where
  to : ℕ → Message → Reading
  malformed : Reading

-- the message, if its unused fields are 0
unfoldable pub reading : Bool → ℕ → Message → Reading
reading ok j m = cond ok (to j m) malformed

-- what stands beside op in a list of readings
unfoldable pub choose : ℕ → List (ℕ × Reading) → Reading
choose op [] = malformed
choose op (r ∷ rest) = cond (eqb op r.0) r.1 (choose op rest)

-- how many bytes a fetch has
abbrev pub fetch_size : ℕ
fetch_size = 141

-- the rows of a fetch: signer k on item x
unfoldable pub rows_in : List ℕ → ℕ → ℕ → Bool
rows_in s x k = ltb x row_items && member (number_at s (13 + 2 * x) 2) k

-- What the fields say beside each op, of peer j, other k, period p, item x and board B: what is brought in thirteen
-- bytes, what is brought with the rows of a fetch, and what the peer does by itself.
abbrev pub brought : ℕ → ℕ → ℕ → ℕ → ℕ → List (ℕ × Reading)
brought j k p x B =
    (2, reading (all_zero k p 0 B) j (handed x))
    ∷ (4, reading (all_zero 0 0 0 B) j (taken k p x))
    ∷ (10, reading (all_zero x 0 0 0) j (told k p B))
    ∷ []

abbrev pub rows_brought : ℕ → ℕ → ℕ → ℕ → ℕ → List ℕ → List (ℕ × Reading)
rows_brought j k p x B s = (8, reading (all_zero x 0 0 B) j (fetched k p (rows_in s))) ∷ []

abbrev pub own : ℕ → ℕ → ℕ → ℕ → ℕ → List (ℕ × Reading)
own j k p x B =
    (3, reading (all_zero k p 0 B) j (signs x))
    ∷ (5, reading (all_zero k p 0 B) j (shares x))
    ∷ (7, reading (all_zero k p x B) j closes)
    ∷ (9, reading (all_zero k x 0 B) j (hashes p))
    ∷ (11, reading (all_zero k p x B) j backs)
    ∷ (17, reading (all_zero k p x B) j falls)
    ∷ (18, reading (all_zero k p x B) j rises)
    ∷ []

-- the message that bytes say
unfoldable pub read_message : List ℕ → Reading
read_message s =
    let op = byte_at s 0 in
    let j = byte_at s 1 in let k = byte_at s 2 in let p = byte_at s 3 in let x = byte_at s 4 in let B = number_at s 5 8 in
    cond (eqb (length s) 13) (choose op (brought j k p x B))
    (cond (eqb (length s) fetch_size) (choose op (rows_brought j k p x B s)) malformed)

-- the peer's own step that bytes say
unfoldable pub read_step : List ℕ → Reading
read_step s =
    let op = byte_at s 0 in
    let j = byte_at s 1 in let k = byte_at s 2 in let p = byte_at s 3 in let x = byte_at s 4 in let B = number_at s 5 8 in
    cond (eqb (length s) 13) (choose op (own j k p x B)) malformed

-- The field peer j and bytes: those of no form are 5, those that name another peer are 6; else as it handles the
-- message.
unfoldable pub handle_reading : Table → ℕ → Box → Reading → Handled
handle_reading T j b malformed = record { answer = number_of form; after = b; sent = none }
handle_reading T j b (to i m) = cond (eqb i j) (handle T j b m)
    (record { answer = number_of name; after = b; sent = none })

-- writing

-- the signers of item x in rows, as a set
unfoldable pub signers_of : (ℕ → ℕ → Bool) → ℕ → ℕ
signers_of rows x = pack row_peers (λ k. rows x (k + 1))

-- byte i of rows: two for each item, high byte first
unfoldable pub row_byte : (ℕ → ℕ → Bool) → ℕ → ℕ
row_byte rows i = let set = signers_of rows (i / 2) in cond (eqb (i % 2) 0) (set / 256) (set % 256)

-- the bytes of what comes to peer j
unfoldable pub message_bytes : ℕ → Message → List ℕ
message_bytes j (handed x) = bytes_of (of 2 j 0 0 x 0)
message_bytes j (taken k p x) = bytes_of (of 4 j k p x 0)
message_bytes j (fetched k p rows) = bytes_of (of 8 j k p 0 0) ++ tab (2 * row_items) (row_byte rows)
message_bytes j (told k p B) = bytes_of (of 10 j k p 0 B)
message_bytes j (signs x) = bytes_of (of 3 j 0 0 x 0)
message_bytes j (shares x) = bytes_of (of 5 j 0 0 x 0)
message_bytes j closes = bytes_of (of 7 j 0 0 0 0)
message_bytes j (hashes p) = bytes_of (of 9 j 0 p 0 0)
message_bytes j backs = bytes_of (of 11 j 0 0 0 0)
message_bytes j falls = bytes_of (of 17 j 0 0 0 0)
message_bytes j rises = bytes_of (of 18 j 0 0 0 0)

-- the bytes of what peer j sends; 13 zeros where it sends nothing
unfoldable pub sent_bytes : ℕ → Option Sent → List ℕ
sent_bytes j none = bytes_of (of 0 0 0 0 0 0)
sent_bytes j (some (signature p x)) = bytes_of (of 3 j 0 p x 0)
sent_bytes j (some (share p x)) = bytes_of (of 5 j 0 p x 0)
sent_bytes j (some (hash p B)) = bytes_of (of 9 j 0 p 0 B)
sent_bytes j (some (backing p B)) = bytes_of (of 11 j 0 p 0 B)

-- what thirteen bytes say was sent
unfoldable pub read_sent : List ℕ → Option Sent
read_sent s =
    let op = byte_at s 0 in let p = byte_at s 3 in let x = byte_at s 4 in let B = number_at s 5 8 in
    cond (eqb op 3) (some (signature p x))
    (cond (eqb op 5) (some (share p x))
    (cond (eqb op 9) (some (hash p B))
    (cond (eqb op 11) (some (backing p B)) none)))

-- the message is one that is brought; else it is an act of the peer's own
unfoldable pub is_brought : Message → Bool
is_brought (handed x) = true
is_brought (taken k p x) = true
is_brought (fetched k p rows) = true
is_brought (told k p B) = true
is_brought (signs x) = false
is_brought (shares x) = false
is_brought closes = false
is_brought (hashes p) = false
is_brought backs = false
is_brought falls = false
is_brought rises = false

-- what the step points at is filled in: the other's database, or the hash
unfoldable pub is_filled : Message → Bool
is_filled (fetched k p rows) = true
is_filled (told k p B) = true
is_filled (handed x) = false
is_filled (taken k p x) = false
is_filled (signs x) = false
is_filled (shares x) = false
is_filled closes = false
is_filled (hashes p) = false
is_filled backs = false
is_filled falls = false
is_filled rises = false

-- what reads it
unfoldable pub read_as : Message → List ℕ → Reading
read_as m s = cond (is_brought m) (read_message s) (read_step s)

-- a board has its place in eight bytes
abbrev pub InBytes : Message → Type 0
InBytes (told k p B) = B < 2 ^ 64
InBytes (handed x) = Unit {0}
InBytes (taken k p x) = Unit {0}
InBytes (fetched k p rows) = Unit {0}
InBytes (signs x) = Unit {0}
InBytes (shares x) = Unit {0}
InBytes closes = Unit {0}
InBytes (hashes p) = Unit {0}
InBytes backs = Unit {0}
InBytes falls = Unit {0}
InBytes rises = Unit {0}

-- so has what is sent
abbrev pub SentInBytes : Option Sent → Type 0
SentInBytes none = Unit {0}
SentInBytes (some (signature p x)) = Unit {0}
SentInBytes (some (share p x)) = Unit {0}
SentInBytes (some (hash p B)) = B < 2 ^ 64
SentInBytes (some (backing p B)) = B < 2 ^ 64
