-- The arms are rows of `first_of`: a character that is an item of its own, a word, a number run (Skims).
use native.Mathlib.Omega.{arith}
use mathlib.Core.Path.{◌≡◌, refl}
use Prim.Native.Nat.{◌+◌, ◌≤◌}
use lib.ListN.{get_or}
use Rattle.laws.specs.Quoted.{code}
use Rattle.chars.specs.Blank.{is_blank}
use Rattle.chars.proofs.Cuts.{good_past}
use Rattle.items.specs.Kinds as kind
use Rattle.items.specs.Classes.{starts_run, first_of}
use Rattle.items.specs.declared.Phase.TheVariants as ph
use Rattle.items.specs.declared.Quotes.TheVariants.{Double}
use Rattle.meaning.specs.Meant.{means}
use Rattle.meaning.specs.declared.Text.TheVariants.{Nowhere}
use Rattle.lexer.specs.Glance.{Begins}
use Rattle.lexer.proofs.Glances.{begins}
use Rattle.items_telling.proofs.Firsts.{letter_solid, letter_first, digit_solid, digit_first}
use Rattle.lexer.proofs.Tells.{single_told}
use Rattle.lexer.proofs.Quotings.{quoted_skims}
use Rattle.lexer.proofs.Skims.{word_skims, run_skims}
use Rattle.lexer.proofs.glance.skim_at.Tie as tie
use Rattle.lexer.proofs.glance.skim_at.Lts as lts
use Rattle.lexer.proofs.glance.skim_at.Reads as reads
use Rattle.lexer.proofs.glance.skim_at.Goals as goal

letter : (c : lts.Past-Then4 tie.the-claims reads.Pre reads.Post) → Begins c.args.source.now c.args.at (c.args.at + 1) ph.InWord
letter c =
    let b = get_or c.args.source.now c.args.at 0 in
    let other : b ≡ code "`" → ⊥ = c.in-97-to-122.in_default-own.rest.0.0.0.1 in
    let low : code "a" ≤ b = omega (arith, c.in-97-to-122.if-this-lt96-own.false) in
    let high : b ≤ code "z" = omega (arith, c.in-97-to-122.if-this-lt123-own.true) in
    begins c.args.source.now c.args.at b ph.InWord c.requires.1 refl (omega arith) (letter_solid b low high) (letter_first b low high)

digit : (c : lts.Past-Then2 tie.the-claims reads.Pre reads.Post) → Begins c.args.source.now c.args.at
    (c.args.at + 1) ph.InRun
digit c =
    let b = get_or c.args.source.now c.args.at 0 in
    let low : code "0" ≤ b = omega (arith, c.in-48-to-57.if-this-lt48-own.false) in
    let high : b ≤ code "9" = omega (arith, c.in-48-to-57.if-this-lt58-own.true) in
    begins c.args.source.now c.args.at b ph.InRun c.requires.1 refl (omega arith) (digit_solid b low high) (digit_first b low high)

pub quoted_ending-requires : goal.quoted_ending-requires
quoted_ending-requires c =
    (omega (arith, c.requires.1), good_past c.args.source.now c.args.at c.requires.2 c.requires.1 (omega (arith, c.in-34.is)))

pub skim_line-requires : goal.skim_line-requires
unfolding first_of starts_run is_blank
skim_line-requires c = (
  c.requires.0,
  begins c.args.source.now c.args.at (code ";") ph.InLine c.requires.1 c.in-59.is (omega arith) refl refl,
  good_past c.args.source.now c.args.at c.requires.2 c.requires.1 (omega (arith, c.in-59.is)),
)

pub skim_hash-requires : goal.skim_hash-requires
skim_hash-requires c = (c.requires.0, record { some = c.requires.1; sharp = c.in-35.is }, c.requires.2)

pub run_ending-requires : goal.run_ending-requires
run_ending-requires c = omega (arith, c.requires.1)

pub word_ending-requires : goal.word_ending-requires
word_ending-requires c = omega (arith, c.requires.1)

pub returns-in-40 : goal.returns-in-40
unfolding first_of starts_run is_blank
returns-in-40 c = (
  means kind.OpenParen kind.Round Nowhere,
  single_told c.args.source.now c.args.report
      c.args.skip c.args.at (code "(") kind.OpenParen kind.Round c.requires.1 c.in-40.is (omega arith) refl refl refl,
)

pub returns-in-41 : goal.returns-in-41
unfolding first_of starts_run is_blank
returns-in-41 c = (
  means kind.CloseParen kind.Round Nowhere,
  single_told c.args.source.now c.args.report
      c.args.skip c.args.at (code ")") kind.CloseParen kind.Round c.requires.1 c.in-41.is (omega arith) refl refl refl,
)

pub returns-in-91 : goal.returns-in-91
unfolding first_of starts_run is_blank
returns-in-91 c = (
  means kind.OpenParen kind.Square Nowhere,
  single_told c.args.source.now c.args.report
      c.args.skip c.args.at (code "[") kind.OpenParen kind.Square c.requires.1 c.in-91.is (omega arith) refl refl refl,
)

pub returns-in-93 : goal.returns-in-93
unfolding first_of starts_run is_blank
returns-in-93 c = (
  means kind.CloseParen kind.Square Nowhere,
  single_told c.args.source.now c.args.report
      c.args.skip c.args.at (code "]") kind.CloseParen kind.Square c.requires.1 c.in-93.is (omega arith) refl refl refl,
)

pub returns-in-123 : goal.returns-in-123
unfolding first_of starts_run is_blank
returns-in-123 c = (
  means kind.OpenParen kind.Curly Nowhere,
  single_told c.args.source.now c.args.report
      c.args.skip c.args.at (code "{") kind.OpenParen kind.Curly c.requires.1 c.in-123.is (omega arith) refl refl refl,
)

pub returns-in-125 : goal.returns-in-125
unfolding first_of starts_run is_blank
returns-in-125 c = (
  means kind.CloseParen kind.Curly Nowhere,
  single_told c.args.source.now c.args.report
      c.args.skip c.args.at (code "}") kind.CloseParen kind.Curly c.requires.1 c.in-125.is (omega arith) refl refl refl,
)

pub returns-in-39 : goal.returns-in-39
unfolding first_of starts_run is_blank
returns-in-39 c = (
  means kind.QuoteTick 0 Nowhere,
  single_told c.args.source.now
      c.args.report c.args.skip c.args.at (code "'") kind.QuoteTick 0 c.requires.1 c.in-39.is (omega arith) refl refl refl,
)

pub returns-in-96 : goal.returns-in-96
unfolding first_of starts_run is_blank
returns-in-96 c = (
  means kind.QuasiQuote 0 Nowhere,
  single_told c.args.source.now
      c.args.report c.args.skip c.args.at (code "`") kind.QuasiQuote 0 c.requires.1 c.in-96.is (omega arith) refl refl refl,
)

pub returns-in-34 : goal.returns-in-34
returns-in-34 c =
    quoted_skims c.args.source.now c.args.at Double c.requires.0 c.requires.1 c.in-34.is c.quoted_ending.result (c.quoted_ending.ensures Double refl)
    c.args.report c.args.skip

pub returns-in-59 : goal.returns-in-59
returns-in-59 c = c.skim_line.ensures c.args.report

pub returns-in-35 : goal.returns-in-35
returns-in-35 c = c.skim_hash.ensures c.args.report

pub returns-in-48-to-57 : goal.returns-in-48-to-57
returns-in-48-to-57 c =
    run_skims c.args.source.now c.args.report c.args.skip c.args.at (c.args.at + 1) c.requires.0 (digit c.before.before) (λ e. omega (arith, e, c.in-48-to-57.if-this-lt48-own.false)) c.run_ending.result
    c.run_ending.ensures

pub returns-in-97-to-122 : goal.returns-in-97-to-122
returns-in-97-to-122 c =
    word_skims c.args.source.now c.args.report c.args.skip c.args.at (c.args.at + 1) c.requires.0 (letter c.before.before) (λ e. omega (arith, e, c.in-97-to-122.if-this-lt96-own.false)) c.word_ending.result
    (c.word_ending.ensures c.args.report)

pub returns-in_default : goal.returns-in_default
returns-in_default c = c.skim_rare.ensures c.args.skip
