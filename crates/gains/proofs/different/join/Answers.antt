-- Step k is left out of the chains, or the last of its chain.
use mathlib.Core.Bool.{true, false}
use mathlib.Core.Path.{◌≡◌, refl, sym, ◌∙◌}
use borrow.Author.Rules.{rules}
use Rattle.gains.specs.Chains.{is_new}
use Rattle.gains.proofs.Chains.{hash_is}
use Rattle.gains.proofs.News.{no_backing, found_new, chains_same, chains_more, chains_part, links_to}
use Rattle.gains.proofs.different.join.Goals as goal

pub returns-then-byte_at-ne16 : goal.returns-then-byte_at-ne16
returns-then-byte_at-ne16 c =
    let old : false ≡ is_new c.args.s.now c.args.k = search no_backing in
    (old, search rules, chains_same _ _ _ _ c.requires.0 c.requires.1 c.requires.2 c.requires.3 old refl)

pub slice_bounds-find-end : goal.slice_bounds-find-end
slice_bounds-find-end c = search rules

pub find-requires : goal.find-requires
find-requires c = (search rules, search chains_part, search hash_is, search rules)

pub returns-then-is_some : goal.returns-then-is_some
returns-then-is_some c =
    let none = sym c.is_some.ensures ∙ c.if-is_some.true in
    let old : false ≡ is_new c.args.s.now c.args.k =
    found_new _ _ c.requires.0 c.byte_at.ensures c.if-byte_at-ne16.false none c.find.ensures (links_to c.requires.3) in
    (old, search rules, chains_same _ _ _ _ c.requires.0 c.requires.1 c.requires.2 c.requires.3 old refl)

pub returns : goal.returns
returns c =
    let none = sym c.is_some.ensures ∙ c.if-is_some.false in
    let new : true ≡ is_new c.args.s.now c.args.k =
    found_new _ _ c.requires.0 c.byte_at.ensures c.if-byte_at-ne16.false none c.find.ensures (links_to c.requires.3) in
    let hash = c.mix_of-h.ensures in
    let chains = chains_more _ _ _ _ c.requires.0 c.requires.1 c.requires.2 c.requires.3 new refl c.part_of.ensures hash.0 hash.1 in
    (new, search rules, chains)
