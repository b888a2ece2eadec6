-- Each test is one of `new_of`; where both pass, the slot, the three words and the bytes are those that it names.
use Prim.Native.Nat.{ℕ}
use native.Mathlib.Omega.{arith}
use native.Mathlib.Nat.{mod-lt}
use mathlib.Core.Path.{ap, ◌∙◌}
use lib.ListN.{length}
use Rattle.names.specs.Call.{looks, slot_of, new_words}
use Rattle.names.proofs.Gives.{free_small, new_full, new_long, new_put, used_of}
use Rattle.names.proofs.Laws.{slot_small}
use Rattle.names.proofs.entering.add.Goals as goal

pub returns-then-n-ge-HALF_NAMES : goal.returns-then-n-ge-HALF_NAMES
returns-then-n-ge-HALF_NAMES c = new_full _ _ _ _ c.word-n.ensures c.if-n-ge-HALF_NAMES.true

pub overflow_sub-from : goal.overflow_sub-from
overflow_sub-from c =
    omega (
      arith,
      used_of c.args.words.now
          c.args.bytes.now c.args.party c.args.name.now c.word-n.ensures c.word-from.ensures,
      c.requires.party_bound,
    )

pub returns-then-from-name : goal.returns-then-from-name
returns-then-from-name c = new_long _ _ _ _ c.word-n.ensures c.if-n-ge-HALF_NAMES.false
    c.word-from.ensures c.requires.party_bound c.if-from-name.true

pub put-requires : goal.put-requires
put-requires c =
    let q = c.requires in
    let u = used_of c.args.words.now
    c.args.bytes.now c.args.party c.args.name.now c.word-n.ensures c.word-from.ensures in record {
      table_words_in_bounds = q.readable.words;
      party_bound = q.readable.party;
      slot_bound = rw q.slot_value (free_small c.args.words.now
          c.args.bytes.now c.args.name.now c.args.party looks (slot_of c.args.name.now) (slot_small _));
      tag_lt_hashes_aslot = rw q.tag_value (mod-lt _ (omega arith));
      n_value = c.word-n.ensures;
      from_value = u;
      n_lt_half_names = c.if-n-ge-HALF_NAMES.false;
      len_bound = omega (arith, u, q.party_bound, c.if-from-name.false);
    }

pub overflow_add-party-3 : goal.overflow_add-party-3
overflow_add-party-3 c =
    omega (
      arith,
      used_of c.args.words.now c.args.bytes.now c.args.party c.args.name.now
          c.word-n.ensures
          c.word-from.ensures,
      c.requires.party_bound,
    )

pub copy-requires : goal.copy-requires
copy-requires c =
    let q = c.requires in
    omega (
      arith,
      used_of c.args.words.now c.args.bytes.now
          c.args.party c.args.name.now c.word-n.ensures c.word-from.ensures,
      q.party_bound,
      q.readable.bytes,
      q.readable.party,
      c.if-from-name.false,
    )

pub returns : goal.returns
returns c =
    let q = c.requires in
    new_put _ _ _ _
    c.word-n.ensures c.if-n-ge-HALF_NAMES.false
    c.word-from.ensures q.party_bound c.if-from-name.false q.slot_value
    (c.put.ensures
    ∙ ap (λ (t : ℕ). new_words c.args.words.now c.args.party c.args.slot t (length c.args.name.now)) q.tag_value)
    c.copy.ensures
