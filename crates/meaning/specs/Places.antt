-- Places as the code holds them.
use Rattle.std.specs.Prelude.{ℕ}
use Rattle.items.specs.Items.{Place, range}
use Rattle.items.specs.declared.Outcome.{Outcome}
use Rattle.items.specs.declared.Outcome.TheVariants.{Token, Str, HereStr, Word, Run, Lined, Keyword, Character, Error, ErrorAt}
use Rattle.meaning.specs.declared.Range.{Range}

-- a place, and a range as the code holds it
abbrev pub place_in : Range → Place
place_in r = range r.from r.to

abbrev pub range_of : Place → Range
range_of p = record { from = p.from; to = p.to }

-- where the range ends that an outcome sets; 0 where it sets none of its own
abbrev pub reach : Outcome → ℕ
reach (Token k d) = 0
reach Str = 0
reach HereStr = 0
reach Word = 0
reach Run = 0
reach Lined = 0
reach Keyword = 0
reach Character = 0
reach (Error n d) = 0
reach (ErrorAt n d a b) = b

-- where it starts
abbrev pub reach_from : Outcome → ℕ
reach_from (Token k d) = 0
reach_from Str = 0
reach_from HereStr = 0
reach_from Word = 0
reach_from Run = 0
reach_from Lined = 0
reach_from Keyword = 0
reach_from Character = 0
reach_from (Error n d) = 0
reach_from (ErrorAt n d a b) = a
