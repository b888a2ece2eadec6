-- What the two memories hold is what is done, written; each turn adds the records that one look after the other tells (put_told), then one
-- record and one text, and at the end all is done: past the last byte there is no further item.
use mathlib.Core.Path.{◌≡◌, refl, sym, ap, ◌∙◌, subst}
use Prim.Native.Nat.{◌+◌, ◌-◌, ◌≤◌}
use native.Mathlib.Omega.{arith}
use lib.ListN.{length, take, drop}
use Rattle.laws.proofs.Lent.{length_part}
use Rattle.items.specs.Items.{record_words}
use Rattle.lexer.specs.Reading.{next_at, found_of, size_of, one_found}
use Rattle.lexer.specs.Inner.{bytes_for}
use Rattle.lexer.specs.Writing.{Writing, Roomy, told_to}
use Rattle.lexer.specs.declared.Spot.{Spot}
use Rattle.lexer.proofs.Writing.{past_end, writing, written_all, writing_end, writing_on, has_moved, room, text_fits_lem, recs-length, text-length}
use Rattle.lexer.proofs.whole.write.Tie as tie
use Rattle.lexer.proofs.whole.write.Lts as lts
use Rattle.lexer.proofs.whole.write.Reads as reads
use Rattle.lexer.proofs.whole.write.Goals as goal

fit : (c : lts.After-slice_known3 tie.the-claims reads.Pre reads.Post goal.the-invariant-loop-p goal.the-decreases-loop-p tie.handed_clauses) → Roomy c.args.source.now
    c.args.spot
    c.args.recs.now
    c.args.text.now
fit c =
    record { rows = c.requires.spot_in_bounds; bytes = c.requires.spot_in_bounds_2 }

told : (c : lts.After-slice_known3 tie.the-claims reads.Pre reads.Post goal.the-invariant-loop-p goal.the-decreases-loop-p tie.handed_clauses) → Writing c.args.source.now c.args.spot c.args.recs.now c.args.text.now
    c.put_known-told.new.recs c.loop-p.text
    (told_to c.loop-p.p c.put_known-told.result.at c.loop-p.w c.put_known-told.result.words)
    c.loop-p.free c.put_known-told.result.depth c.put_known-told.result.words
told c =
    c.put_known-told.ensures.1.on c.args.spot c.args.recs.now c.args.text.now c.loop-p.text (fit c) c.loop-p.invariant

stood : (c : lts.After-spot_past tie.the-claims reads.Pre reads.Post goal.the-invariant-loop-p goal.the-decreases-loop-p tie.handed_clauses) → Writing c.args.source.now
    c.args.spot c.args.recs.now c.args.text.now
    c.put_known-told.new.recs c.loop-p.text c.spot_past-p.result
    c.loop-p.free c.put_known-told.result.depth
    c.put_known-told.result.words
stood c =
    let there = c.put_known-told in
    subst (λ (q : Spot). Writing c.args.source.now c.args.spot c.args.recs.now c.args.text.now
    there.new.recs c.loop-p.text q c.loop-p.free there.result.depth there.result.words) (sym c.spot_past-p.ensures) (told c.before.before.before)

one : (c : lts.Past-After-known_told tie.the-claims reads.Pre reads.Post goal.the-invariant-loop-p goal.the-decreases-loop-p tie.handed_clauses) → one_found c.in-Some.found.nine c.in-Some.found.after
    ≡ found_of c.loop-p.free (next_at c.args.source.now c.spot_past-p.result)
one c = sym c.in-Some.is ∙ c.next_item.ensures

fits : (c : lts.Past-After-known_told tie.the-claims reads.Pre reads.Post goal.the-invariant-loop-p goal.the-decreases-loop-p tie.handed_clauses) → (c.put_known-told.result.words + record_words ≤ length c.put_known-told.new.recs)
    × (c.loop-p.free + length (bytes_for c.args.source.now c.in-Some.found.nine) ≤ length c.loop-p.text)
fits c =
    room c.args.source.now c.args.spot c.args.recs.now c.args.text.now (fit c.before.before.before.before.before) (stood c.before.before)
    c.in-Some.found.nine c.in-Some.found.after (one c)

same : (c : lts.Past-After-known_told tie.the-claims reads.Pre reads.Post goal.the-invariant-loop-p goal.the-decreases-loop-p tie.handed_clauses) → length c.put_known-told.new.recs ≡ length c.args.recs.now
same c =
    recs-length c.args.source.now c.args.spot c.args.recs.now c.args.text.now (fit c.before.before.before.before.before) (stood c.before.before)

pub loop-p-init : goal.loop-p-init
loop-p-init c =
    writing c.args.source.now
    c.args.spot c.args.recs.now c.args.text.now (record { rows = c.requires.spot_in_bounds; bytes = c.requires.spot_in_bounds_2 })

pub put_known-told-requires : goal.put_known-told-requires
put_known-told-requires c = (
  c.requires.source_len_bound.0,
  record {
    start = c.args.spot;
    recs₀ = c.args.recs.now;
    text₀ = c.args.text.now;
    text = c.loop-p.text;
    roomy = record { rows = c.requires.spot_in_bounds; bytes = c.requires.spot_in_bounds_2 };
    writing = c.loop-p.invariant;
  },
  c.requires.source_len_bound.1,
)

pub shape_of-recs-then-source-told : goal.shape_of-recs-then-source-told
shape_of-recs-then-source-told c =
    recs-length c.args.source.now c.args.spot c.args.recs.now c.args.text.now (fit c.before.before.before.before) (told c.before.before.before.before)

pub shape_of-text-then-source-told : goal.shape_of-text-then-source-told
shape_of-text-then-source-told c =
    text-length c.args.source.now c.args.spot c.args.recs.now c.args.text.now (fit c.before.before.before.before) (told c.before.before.before.before)

pub returns-then-source-told : goal.returns-then-source-told
returns-then-source-told c =
    let there = c.put_known-told.result in
    let e = past_end c.args.source.now (told_to c.loop-p.p there.at c.loop-p.w there.words) c.loop-p.free c.if-source-told.true in let rest =
    writing_end c.args.source.now c.args.spot c.args.recs.now c.args.text.now (fit c.before.before.before.before) (told c.before.before.before.before) e in record {
      value = c.taken.ensures
          ∙ written_all c.args.source.now c.args.spot c.args.recs.now c.args.text.now (fit c.before.before.before.before)
          (told c.before.before.before.before) _ refl e;
      recs_after = rest.0;
      text_after = rest.1;
    }

pub next_item-requires : goal.next_item-requires
next_item-requires c = (c.requires.source_len_bound.0, (stood c.before).going.behind)

pub offset_bounds-recs-w : goal.offset_bounds-recs-w
offset_bounds-recs-w c = omega (arith, fits c.before.before, same c.before.before)

pub slice_bounds-put-count : goal.slice_bounds-put-count
slice_bounds-put-count c = omega (arith, fits c.before.before)

pub slice_bounds-put-start : goal.slice_bounds-put-start
slice_bounds-put-start c = omega (arith, fits c.before.before)

pub put-requires : goal.put-requires
put-requires c = let t = c.put_known-told in omega (arith, fits c.before.before.before, length_part t.new.recs t.result.words)

pub slice_bounds-put_text-count : goal.slice_bounds-put_text-count
slice_bounds-put_text-count c = omega (arith, fits c.before.before.before.before.before.before)

pub slice_bounds-put_text-start : goal.slice_bounds-put_text-start
slice_bounds-put_text-start c = omega (arith, fits c.before.before.before.before.before.before)

pub put_text-requires : goal.put_text-requires
put_text-requires c =
    let l = c.loop-p in
    text_fits_lem c.args.source.now c.args.spot c.args.recs.now c.args.text.now (fit c.before.before.before.before.before.before.before.before.before.before.before.before) (stood c.before.before.before.before.before.before.before.before.before)
    c.in-Some.found.nine c.in-Some.found.after (one c.before.before.before.before.before.before.before)
    (length (take (length l.text - l.free) (drop l.free l.text))) (omega (arith, fits c.before.before.before.before.before.before.before, length_part l.text l.free))

pub overflow_add-w : goal.overflow_add-w
overflow_add-w c =
    omega (arith, fits c.before.before.before.before.before.before.before.before.before.before.before, same c.before.before.before.before.before.before.before.before.before.before.before)

pub loop-p-smaller : goal.loop-p-smaller
loop-p-smaller c =
    omega (
      arith,
      (has_moved c.args.source.now c.args.spot c.args.recs.now c.args.text.now (fit c.before.before.before.before.before.before.before.before.before.before.before.before.before.before.before.before.before.before) (stood c.before.before.before.before.before.before.before.before.before.before.before.before.before.before.before)
          c.in-Some.found.nine c.in-Some.found.after (one c.before.before.before.before.before.before.before.before.before.before.before.before.before)).smaller,
      c.put_known-told.ensures.1.ahead,
      ap (size_of c.args.source.now) c.spot_past-p.ensures,
    )

pub loop-p-preserved : goal.loop-p-preserved
loop-p-preserved c =
    writing_on c.args.source.now c.args.spot c.args.recs.now c.args.text.now (fit c.before.before.before.before.before.before.before.before.before.before.before.before.before.before.before.before.before.before) (stood c.before.before.before.before.before.before.before.before.before.before.before.before.before.before.before)
    c.in-Some.found.nine c.in-Some.found.after (one c.before.before.before.before.before.before.before.before.before.before.before.before.before)
    c.free_after-free.result c.depth_after-depth.result c.free_after-free.ensures
    c.depth_after-depth.ensures c.put.ensures c.put_text.ensures

pub shape_of-recs-in_default : goal.shape_of-recs-in_default
shape_of-recs-in_default c =
    recs-length c.args.source.now c.args.spot c.args.recs.now c.args.text.now
    (fit c.before.before.before.before.before.before.before) (stood c.before.before.before.before)

pub shape_of-text-in_default : goal.shape_of-text-in_default
shape_of-text-in_default c =
    text-length c.args.source.now c.args.spot c.args.recs.now c.args.text.now
    (fit c.before.before.before.before.before.before.before) (stood c.before.before.before.before)

pub returns-in_default : goal.returns-in_default
returns-in_default c =
    let e = sym c.in_default.is ∙ c.next_item.ensures in let rest =
    writing_end c.args.source.now c.args.spot c.args.recs.now c.args.text.now
    (fit c.before.before.before.before.before.before.before) (stood c.before.before.before.before) e in record {
      value = c.taken-in_default.ensures
          ∙ written_all c.args.source.now c.args.spot c.args.recs.now c.args.text.now
          (fit c.before.before.before.before.before.before.before) (stood c.before.before.before.before) _ refl e;
      recs_after = rest.0;
      text_after = rest.1;
    }
