-- By `full_room` and `full_at`.
use Rattle.bag_guard.proofs.Full.{full_room, full_at}
use Rattle.bag_guard.proofs.entry.is_full.Goals as goal

pub returns-then-bag_len-ge-ENTRIES : goal.returns-then-bag_len-ge-ENTRIES
returns-then-bag_len-ge-ENTRIES c = full_at _ _ _ c.bag_len.ensures.0 c.if-bag_len-ge-ENTRIES.true c.is_in.ensures

pub returns-else-bag_len-ge-ENTRIES : goal.returns-else-bag_len-ge-ENTRIES
returns-else-bag_len-ge-ENTRIES c = full_room _ _ _ c.bag_len.ensures.0 c.if-bag_len-ge-ENTRIES.false
