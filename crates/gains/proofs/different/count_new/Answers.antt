-- The block's chains are made, the steps before it struck, and what is left is counted.
use borrow.Author.Rules.{rules}
use Rattle.gains.proofs.News.{chains_none, chains_part, links_to}
use Rattle.gains.proofs.Blocks.{fresh_start}
use Rattle.gains.proofs.Split.{block_long, block_added}
use Rattle.gains.proofs.different.count_new.Goals as goal

pub join_steps-requires : goal.join_steps-requires
join_steps-requires c = (search block_long, search rules, search rules, search rules, search chains_none)

pub slice_bounds-strike_steps-end-2 : goal.slice_bounds-strike_steps-end-2
slice_bounds-strike_steps-end-2 c = search links_to

pub strike_steps-requires : goal.strike_steps-requires
strike_steps-requires c =
    let made = c.join_steps.ensures in
    (search rules, search chains_part, fresh_start _ _ _ _ _ made.1 (search rules) (links_to made.0))

pub returns : goal.returns
returns c = search (block_added, links_to)
