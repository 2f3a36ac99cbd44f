-- The layout of the state: at which byte what stands. All of it is 0 in the fresh state.
use Rattle.std.specs.Prelude.{ℕ, ◌+◌, ◌*◌}

-- as many as there can be

abbrev pub peers : ℕ
peers = 16

abbrev pub periods : ℕ
periods = 8

abbrev pub items : ℕ
items = 64

abbrev pub entries : ℕ
entries = 256

-- the bytes of a set of peers, of a set of items, and of the number of entries

abbrev pub peer_bytes : ℕ
peer_bytes = 2

abbrev pub item_bytes : ℕ
item_bytes = 8

abbrev pub count_bytes : ℕ
count_bytes = 2

-- the facts, a bit for each: the byte at which each kind begins

abbrev pub posted_at : ℕ
posted_at = 0

abbrev pub signed_at : ℕ
signed_at = 8

abbrev pub shared_at : ℕ
shared_at = 1032

abbrev pub receipted_at : ℕ
receipted_at = 2056

abbrev pub held_at : ℕ
held_at = 2120

abbrev pub database_at : ℕ
database_at = 3144

abbrev pub heard_at : ℕ
heard_at = 19528

-- the numbers, a byte for each peer

abbrev pub current_at : ℕ
current_at = 20040

abbrev pub to_back_at : ℕ
to_back_at = 20056

abbrev pub down_at : ℕ
down_at = 20072

-- the bag: the number of entries, and the entries, of eleven bytes each

abbrev pub count_at : ℕ
count_at = 20088

abbrev pub bag_at : ℕ
bag_at = 20090

abbrev pub entry_size : ℕ
entry_size = 11

-- an entry's first byte is its kind; where its signer, its period and its board stand after that

abbrev pub hash_kind : ℕ
hash_kind = 1

abbrev pub backing_kind : ℕ
backing_kind = 2

abbrev pub board_kind : ℕ
board_kind = 3

abbrev pub signer_in : ℕ
signer_in = 1

abbrev pub period_in : ℕ
period_in = 2

abbrev pub board_in : ℕ
board_in = 3

-- the byte at which entry e begins
abbrev pub entry_start : ℕ → ℕ
entry_start e = bag_at + entry_size * e

-- the length of the whole
abbrev pub size : ℕ
size = 22906
