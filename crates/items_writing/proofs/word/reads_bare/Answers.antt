-- Each branch is a case of the decision, which is the definition's test.
use mathlib.Core.Path.{sym, ◌∙◌}
use native.Mathlib.Omega.{arith}
use Rattle.chars.proofs.Chars.{char_at, nothing_at}
use Rattle.items_writing.proofs.WordBranches.{bare_blank, bare_line, bare_ends, bare_apart, bare_none, first_flat}
use Rattle.items_writing.proofs.word.reads_bare.Goals as goal

pub returns-then-is_blank : goal.returns-then-is_blank
returns-then-is_blank c =
    let t = c.args.t.now in
    let first = c.args.first in
    let last = c.args.last in
    let good = c.requires in
    let code = c.in-Char.code in
    let next = c.in-Char.next in
    let k = char_at t 0 code next (sym c.in-Char.is ∙ c.decode_at.ensures) (omega arith) in
    bare_blank t good first last code next k (sym c.is_blank.ensures ∙ c.if-is_blank.true)

pub returns-then-opens_line : goal.returns-then-opens_line
returns-then-opens_line c =
    let t = c.args.t.now in
    let first = c.args.first in
    let last = c.args.last in
    let good = c.requires in
    let code = c.in-Char.code in
    let next = c.in-Char.next in
    let k = char_at t 0 code next (sym c.in-Char.is ∙ c.decode_at.ensures) (omega arith) in
    bare_line t good first last code next k (sym c.is_blank.ensures ∙ c.if-is_blank.false) (sym c.opens_line.ensures ∙ c.if-opens_line.true)

pub stand_on-requires : goal.stand_on-requires
stand_on-requires c =
    let t = c.args.t.now in
    let first = c.args.first in
    let last = c.args.last in
    let good = c.requires in
    let code = c.in-Char.code in
    let next = c.in-Char.next in
    let k = char_at t 0 code next (sym c.in-Char.is ∙ c.decode_at.ensures) (omega arith) in
    (k.inside, first_flat code next c.first_phase.ensures)

pub returns-in-Some : goal.returns-in-Some
returns-in-Some c =
    let t = c.args.t.now in
    let first = c.args.first in
    let last = c.args.last in
    let good = c.requires in
    let code = c.in-Char.code in
    let next = c.in-Char.next in
    let k = char_at t 0 code next (sym c.in-Char.is ∙ c.decode_at.ensures) (omega arith) in
    bare_ends t good first last code next k
    (sym c.is_blank.ensures ∙ c.if-is_blank.false)
    (sym c.opens_line.ensures ∙ c.if-opens_line.false)
    c.first_phase.ensures c.stand_on.ensures c.in-Some.is c.is_name.ensures

pub returns-in-None : goal.returns-in-None
returns-in-None c =
    let t = c.args.t.now in
    let first = c.args.first in
    let last = c.args.last in
    let good = c.requires in
    let code = c.in-Char.code in
    let next = c.in-Char.next in
    let k = char_at t 0 code next (sym c.in-Char.is ∙ c.decode_at.ensures) (omega arith) in
    bare_apart t good first last code next k
    (sym c.is_blank.ensures ∙ c.if-is_blank.false)
    (sym c.opens_line.ensures ∙ c.if-opens_line.false)
    c.first_phase.ensures c.stand_on.ensures c.in-None.is

pub returns-in_default : goal.returns-in_default
returns-in_default c =
    let t = c.args.t.now in
    bare_none t c.requires c.args.first c.args.last
    (nothing_at t 0 c.decode_at.result c.decode_at.ensures c.in_default.not-Char)
