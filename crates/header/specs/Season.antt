-- The season of a table, which says what form it has. Document 02's P5 brings the second and P8 the third: their tables
-- start with the bytes 0 and 2, and with 0 and 3, then the header of document 01. Tables of the first cannot start
-- with 0.
use Rattle.std.specs.Prelude.{ℕ, Bool, true, false, ◌&&◌, cond, List, eqb}
use Rattle.base.specs.Bytes.{byte_at}
use Rattle.header.specs.declared.season.Season.{Season}
use Rattle.header.specs.declared.season.Season.TheVariants.{First, Second, Third}

-- the first two bytes are 0 and this one
abbrev pub zero_then : List ℕ → ℕ → Bool
zero_then s next = eqb (byte_at s 0) 0 && eqb (byte_at s 1) next

-- the season is known by them, and by nothing else
abbrev pub season_of : List ℕ → Season
season_of s = cond (zero_then s 2) Second (cond (zero_then s 3) Third First)

-- where the fields of the header start
abbrev pub fields_at : Season → ℕ
fields_at First = 0
fields_at Second = 2
fields_at Third = 2

-- the peers of its tables have weights: in older ones each weighs 1
abbrev pub has_weights : Season → Bool
has_weights First = false
has_weights Second = false
has_weights Third = true
