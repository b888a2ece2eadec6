-- A part that is UTF-8 gives the items that reading on from its start gives; any other has its mark and its place.
use Rattle.std.proofs.Common.{None, Some}
use mathlib.Core.Path.{◌≡◌, sym, ◌∙◌}
use Rattle.chars.specs.Utf8.{first_bad}
use Rattle.lexer_fields.proofs.OnePart.{opens_at, good_part, good_records, good_texts, good_room, bad_short, bad_part, bad_records, bad_texts}
use Rattle.lexer_fields.proofs.single.write_part.Goals as goal

pub first_place-at-requires : goal.first_place-at-requires
first_place-at-requires c = sym (sym c.in-None.is ∙ c.seen.ensures)

pub write-n-requires : goal.write-n-requires
write-n-requires c =
    let good : None ≡ first_bad c.args.part.now = sym c.in-None.is ∙ c.seen.ensures in
    let opens =
    opens_at c.args.part.now c.args.mode c.args.skip c.spot_at.result c.first_place-at.result c.spot_at.ensures c.first_place-at.ensures in let rest =
    good_room c.args.part.now c.args.mode c.args.skip good c.spot_at.result opens
    c.args.recs.now c.args.text.now c.requires.part_in_bounds c.requires.part_in_bounds_2 in record {
      source_len_bound = (c.requires.part_len_bound.0, sym good);
      spot_in_bounds = rest.0;
      spot_in_bounds_2 = rest.1;
    }

pub not_utf8-requires : goal.not_utf8-requires
not_utf8-requires c =
    let bad : Some c.in-Some.at ≡ first_bad c.args.part.now = sym c.in-Some.is ∙ c.seen.ensures in
    bad_short c.args.part.now c.args.mode c.args.skip c.in-Some.at bad c.requires.part_len_bound.0

pub returns-in-None : goal.returns-in-None
returns-in-None c =
    let good : None ≡ first_bad c.args.part.now = sym c.in-None.is ∙ c.seen.ensures in
    let opens =
    opens_at c.args.part.now c.args.mode c.args.skip c.spot_at.result c.first_place-at.result c.spot_at.ensures c.first_place-at.ensures in record {
      value = good_part c.args.part.now c.args.mode c.args.skip good c.spot_at.result opens
          c.write-n.result c.read_well.result c.write-n.ensures.value c.read_well.ensures;
      recs_after = good_records c.args.part.now c.args.mode c.args.skip good c.spot_at.result opens c.args.recs.now c.write-n.ensures.recs_after;
      text_after = good_texts c.args.part.now c.args.mode c.args.skip good c.spot_at.result opens c.args.text.now c.write-n.ensures.text_after;
    }

pub returns-in-Some : goal.returns-in-Some
returns-in-Some c =
    let bad : Some c.in-Some.at ≡ first_bad c.args.part.now = sym c.in-Some.is ∙ c.seen.ensures in record {
      value = bad_part c.args.part.now c.args.mode c.args.skip c.in-Some.at bad c.not_utf8.result c.not_utf8.ensures;
      recs_after = bad_records c.args.part.now c.args.mode c.args.skip c.in-Some.at bad;
      text_after = bad_texts c.args.part.now c.args.mode c.args.skip c.in-Some.at bad;
    }
