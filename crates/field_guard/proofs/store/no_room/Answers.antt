use Rattle.bag_guard.proofs.Full.{full_room, full_at}
use Rattle.field_state.proofs.Hashes.{heard_length}
use Rattle.field_guard.proofs.store.no_room.Goals as goal

pub returns-then-heard_len-ge-ENTRIES : goal.returns-then-heard_len-ge-ENTRIES
returns-then-heard_len-ge-ENTRIES c = search (full_at, heard_length)

pub returns-else-heard_len-ge-ENTRIES : goal.returns-else-heard_len-ge-ENTRIES
returns-else-heard_len-ge-ENTRIES c = search (full_room, heard_length)
