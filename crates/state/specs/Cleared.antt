-- The bag without the hashes of a period, and what each peer heard by the numbers that the entries have then.
use Rattle.std.specs.Prelude.{ℕ, suc, Bool, ◌&&◌, cond, List, [], ◌∷◌, ltb, length, get_or}
use Rattle.rules.specs.declared.Entry.{Entry}
use Rattle.rules.specs.Bag.{is_hash_of, without_hashes}
use Rattle.state.specs.declared.Fact.{Fact}
use Rattle.state.specs.declared.Fact.TheVariants.{Posted, Signed, Shared, Receipted, Held, Known, Heard}
use Rattle.state.specs.Contents.{Contents}

-- the numbers of the entries that stay, in their order; the bag's first entry has number i
unfoldable pub kept_from : ℕ → ℕ → List Entry → List ℕ
kept_from q i [] = []
kept_from q i (a ∷ bag) = cond (is_hash_of q a) (kept_from q (suc i) bag) (i ∷ kept_from q (suc i) bag)

abbrev pub kept : ℕ → List Entry → List ℕ
kept q bag = kept_from q 0 bag

-- facts, but for the heard numbers, of peer and entry
unfoldable pub heard_as : (ℕ → ℕ → Bool) → (Fact → Bool) → Fact → Bool
heard_as H has (Posted i) = has (Posted i)
heard_as H has (Signed k p i) = has (Signed k p i)
heard_as H has (Shared k p i) = has (Shared k p i)
heard_as H has (Receipted p i) = has (Receipted p i)
heard_as H has (Held j p i) = has (Held j p i)
heard_as H has (Known j p i k) = has (Known j p i k)
heard_as H has (Heard j e) = H j e

-- entry e, of n, is the one that had number `old e`
unfoldable pub afresh : ℕ → (ℕ → ℕ) → (Fact → Bool) → ℕ → ℕ → Bool
afresh n old has j e = ltb e n && has (Heard j (old e))

-- c, with these heard numbers
unfoldable pub hearing : (ℕ → ℕ → Bool) → Contents → Contents
hearing H c = record { has = heard_as H c.has; number = c.number; bag = c.bag }

-- c, with this bag
unfoldable pub with_bag : List Entry → Contents → Contents
with_bag bag c = record { has = c.has; number = c.number; bag = bag }

-- 19 clear: the hashes of period q leave the bag, and what is heard follows
unfoldable pub cleared : ℕ → Contents → Contents
cleared q c =
    let numbers = kept q c.bag in
    with_bag (without_hashes q c.bag) (hearing (afresh (length numbers) (λ e. get_or numbers e 0) c.has) c)
