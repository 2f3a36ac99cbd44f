-- Each peer passes the test.
use Rattle.std.proofs.Common.{rules}
use borrow.Author.Tests.{tests}
use Rattle.base.proofs.Ranges.{all_in_range}
use Rattle.valid.proofs.Fields.{numbers_at, by_peers}
use Rattle.valid.proofs.counters.peers_ok.Goals as goal

pub returns : goal.returns
returns c = by_peers _ _ _ (all_in_range (numbers_at c.args.h c.args.s.now) _ c.all.ensures.ran (λ x b q k. search (rules, tests)))
