-- Every part lies within its slice, by the tests before, which are those of the definition. What is left of the text memory past the
-- text is as it was.
use Rattle.std.proofs.Common.{◌≡◌, ◌+◌, ◌*◌, ◌≤◌, length, sym, refl, ap, ◌∙◌, arith, length-take-le}
use Rattle.laws.proofs.Lent.{part_rest}
use Rattle.items.specs.Items.{record_words, words_of}
use Rattle.pieces_giving.proofs.Laid.{part_laid}
use Rattle.pieces_cuttings.specs.Inner.{is_unwritten}
use Rattle.pieces_cuttings.specs.Notes.{notes}
use Rattle.pieces_cuttings.proofs.Noted.{text_long, left_alone, no_record, no_count, no_text, noted, text_laid}
use Rattle.pieces_cuttings.proofs.noting.note_item.Goals as goal

pub returns-then-records-items : goal.returns-then-records-items
returns-then-records-items c =
    let a = c.args in
    rw c.broken.ensures (no_record c.requires (notes a.before a.records.now a.counts.now a.texts.now) a.taken c.if-records-items.true)

pub returns-then-counts-items : goal.returns-then-counts-items
returns-then-counts-items c =
    let a = c.args in
    rw c.broken-then-counts-items.ensures (no_count c.requires (notes a.before a.records.now a.counts.now a.texts.now) a.taken c.if-records-items.false c.if-counts-items.true)

pub returns-then-text-past : goal.returns-then-text-past
returns-then-text-past c = absurd (omega (arith, text_long c.requires, c.if-text-past.true))

pub returns-then-texts-bytes : goal.returns-then-texts-bytes
returns-then-texts-bytes c =
    let a = c.args in
    rw c.broken-then-texts-bytes.ensures
    (no_text c.requires (notes a.before a.records.now a.counts.now a.texts.now) a.taken c.if-records-items.false
    c.if-counts-items.false (omega (arith, c.if-texts-bytes.true)))

pub returns-then-texts-bytes-2 : goal.returns-then-texts-bytes-2
returns-then-texts-bytes-2 c =
    let a = c.args in
    rw c.broken-then-texts-bytes-2.ensures
    (no_text c.requires (notes a.before a.records.now a.counts.now a.texts.now) a.taken c.if-records-items.false
    c.if-counts-items.false (omega (arith, c.if-texts-bytes-2.true, c.if-texts-bytes.false)))

pub slice_bounds-copy-end : goal.slice_bounds-copy-end
slice_bounds-copy-end c = sym (length-take-le _ _ (omega arith))

pub returns-then-before : goal.returns-then-before
returns-then-before c =
    let a = c.args in
    let fits : a.before.bytes + a.r.nine.past ≤ length a.texts.now = omega (arith, c.if-texts-bytes-2.false, c.if-texts-bytes.false) in
    let kept : c.marked.result ≡ a.before.kept =
    c.marked.ensures ∙ ap is_unwritten (part_rest a.text.now a.r.nine.past) ∙ left_alone c.requires ∙ sym c.if-before.true in
    noted c.requires (notes a.before a.records.now a.counts.now a.texts.now) a.taken c.if-records-items.false
    c.if-counts-items.false fits kept
    (part_laid (a.before.items * record_words) (words_of a.r) a.records.now c.put.ensures) refl
    (text_laid a.r.nine.past a.before.bytes a.text.now a.texts.now c.if-text-past.false fits c.copy.ensures)

pub returns-else-before : goal.returns-else-before
returns-else-before c =
    let a = c.args in
    let fits : a.before.bytes + a.r.nine.past ≤ length a.texts.now = omega (arith, c.if-texts-bytes-2.false, c.if-texts-bytes.false) in
    noted c.requires (notes a.before a.records.now a.counts.now a.texts.now) a.taken c.if-records-items.false
    c.if-counts-items.false fits refl
    (part_laid (a.before.items * record_words) (words_of a.r) a.records.now c.put.ensures) refl
    (text_laid a.r.nine.past a.before.bytes a.text.now a.texts.now c.if-text-past.false fits c.copy.ensures)
