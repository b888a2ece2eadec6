-- The scan from where the item stands is the definition's reader there; its extent lies in the source, so everything made of it fits.
use mathlib.Core.Path.{◌≡◌, refl, sym, ap, ◌∙◌}
use Prim.Native.Nat.{◌≤◌}
use lib.ListN.{length}
use native.Mathlib.Omega.{arith}
use Rattle.items.specs.Classes.{first_of}
use Rattle.items.specs.Machine.{on_first}
use Rattle.steps.specs.Scan.{answer}
use Rattle.lexer.specs.Reading.{found_of}
use Rattle.lexer.proofs.Turns.{turn_started}
use Rattle.lexer.proofs.Scans.{end_inside, scan_fits, found_is}
use Rattle.lexer.proofs.Stood.{stands_started, stands_first}
use Rattle.lexer.proofs.reading.item_at.Tie as tie
use Rattle.lexer.proofs.reading.item_at.Lts as lts
use Rattle.lexer.proofs.reading.item_at.Reads as reads
use Rattle.lexer.proofs.reading.item_at.Goals as goal

from_first : (c : lts.After-scan tie.the-claims reads.Pre reads.Post)
    → c.scan-scanned.result ≡ answer c.args.source.now c.args.p.report c.args.at
    (on_first (first_of c.requires.2.c)) c.requires.2.next
from_first c = c.scan-scanned.ensures ∙ c.requires.2.same c.args.p.report

within : (c : lts.After-scan tie.the-claims reads.Pre reads.Post) → (c.args.at ≤ c.scan-scanned.result.end) × (c.scan-scanned.result.end ≤ length c.args.source.now)
within c =
    let a = c.args in
    let S = c.requires.2 in
    end_inside a.source.now a.p.report a.at S.c S.next (stands_first a.source.now a.p.at a.at a.from a.phase S) c.scan-scanned.result (from_first c)

pub scan-scanned-requires : goal.scan-scanned-requires
scan-scanned-requires c = let S = c.requires.2 in (S.ahead, S.inside, S.deep)

pub slice_bounds-found-count : goal.slice_bounds-found-count
slice_bounds-found-count c = omega (arith, within c.before)

pub slice_bounds-found-start : goal.slice_bounds-found-start
slice_bounds-found-start c = omega (arith, within c.before)

pub slice_bounds-found-end : goal.slice_bounds-found-end
slice_bounds-found-end c = omega (arith, within c.before)

pub found-requires : goal.found-requires
found-requires c =
    let a = c.args in
    let S = c.requires.2 in
    scan_fits a.source.now a.p.report a.at S.c S.next (stands_first a.source.now a.p.at a.at a.from a.phase S)
    c.scan-scanned.result (from_first c.before.before) a.free (omega (arith, c.requires.0))
    (omega (arith, c.requires.1, (stands_started a.source.now a.p.at a.at a.from a.phase S).ahead))

pub returns : goal.returns
returns c =
    let a = c.args in
    let S = c.requires.2 in
    found_is a.source.now a.p.report a.at S.c S.next (stands_first a.source.now a.p.at a.at a.from a.phase S)
    c.scan-scanned.result (from_first c.before.before.before) a.free a.p c.found.result refl c.found.ensures
    ∙ sym (ap (found_of a.free) (turn_started a.source.now a.p S.c a.at S.next (stands_started a.source.now a.p.at a.at a.from a.phase S)))
