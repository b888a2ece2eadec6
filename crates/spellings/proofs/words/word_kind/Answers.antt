-- Each arm tries the rows that begin with its byte, and no others can be the word's.
use Rattle.spellings.proofs.Rows.{by_first, empty_word, no_row}
use Rattle.chars.specs.Encode.{bytes_of, utf8}
use Rattle.items.specs.Meaning.{words, lookup}
use mathlib.Core.Path.{refl}
use Rattle.spellings.proofs.words.word_kind.Goals as goal

pub returns-then-raw-eq0 : goal.returns-then-raw-eq0
returns-then-raw-eq0 c = empty_word _ c.if-raw-eq0.true

pub returns-in-46 : goal.returns-in-46
unfolding words lookup bytes_of utf8
returns-in-46 c = by_first c.args.raw.now _
    c.if-raw-eq0.false c.in-46.is c.either.ensures

pub returns-in-105 : goal.returns-in-105
unfolding words lookup bytes_of utf8
returns-in-105 c = by_first c.args.raw.now _ c.if-raw-eq0.false c.in-105.is c.only.ensures

pub returns-in-108 : goal.returns-in-108
unfolding words lookup bytes_of utf8
returns-in-108 c = by_first c.args.raw.now _
    c.if-raw-eq0.false c.in-108.is c.either-in-108.ensures

pub returns-in-100 : goal.returns-in-100
unfolding words lookup bytes_of utf8
returns-in-100 c =
    by_first c.args.raw.now _
    c.if-raw-eq0.false c.in-100.is (rw c.either-in-100.ensures at c.row.ensures)

pub returns-in-35 : goal.returns-in-35
unfolding words lookup bytes_of utf8
returns-in-35 c = by_first c.args.raw.now _
    c.if-raw-eq0.false c.in-35.is c.either-in-35.ensures

pub returns-in-37 : goal.returns-in-37
unfolding words lookup bytes_of utf8
returns-in-37 c = by_first c.args.raw.now _ c.if-raw-eq0.false c.in-37.is c.only-in-37.ensures

pub returns-in-114 : goal.returns-in-114
unfolding words lookup bytes_of utf8
returns-in-114 c = by_first c.args.raw.now _
    c.if-raw-eq0.false c.in-114.is c.either-in-114.ensures

pub returns-in-98 : goal.returns-in-98
unfolding words lookup bytes_of utf8
returns-in-98 c = by_first c.args.raw.now _ c.if-raw-eq0.false c.in-98.is c.only-in-98.ensures

pub returns-in-102 : goal.returns-in-102
unfolding words lookup bytes_of utf8
returns-in-102 c = by_first c.args.raw.now _ c.if-raw-eq0.false c.in-102.is c.only-in-102.ensures

pub returns-in-206 : goal.returns-in-206
unfolding words lookup bytes_of utf8
returns-in-206 c = by_first c.args.raw.now _ c.if-raw-eq0.false c.in-206.is c.only-in-206.ensures

pub returns-in-113 : goal.returns-in-113
unfolding words lookup bytes_of utf8
returns-in-113 c = by_first c.args.raw.now _ c.if-raw-eq0.false c.in-113.is c.only-in-113.ensures

pub returns-in-115 : goal.returns-in-115
unfolding words lookup bytes_of utf8
returns-in-115 c = by_first c.args.raw.now _
    c.if-raw-eq0.false c.in-115.is c.either-in-115.ensures

pub returns-in_default : goal.returns-in_default
returns-in_default c = by_first c.args.raw.now _ c.if-raw-eq0.false refl
    (no_row _ _ c.in_default.in_default-own.rest.0.0.0.0.0.0.0.0.0.0.0.1
    c.in_default.in_default-own.rest.0.0.0.0.0.0.0.0.0.0.1 c.in_default.in_default-own.rest.0.0.0.0.0.0.0.0.0.1 c.in_default.in_default-own.rest.0.0.0.0.0.0.0.0.1
    c.in_default.in_default-own.rest.0.0.0.0.0.0.0.1 c.in_default.in_default-own.rest.0.0.0.0.0.0.1 c.in_default.in_default-own.rest.0.0.0.0.0.1
    c.in_default.in_default-own.rest.0.0.0.0.1 c.in_default.in_default-own.rest.0.0.0.1 c.in_default.in_default-own.rest.0.0.1 c.in_default.in_default-own.rest.0.1 c.in_default.in_default-own.rest.1)
