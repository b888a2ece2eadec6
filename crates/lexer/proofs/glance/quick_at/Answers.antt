-- The arms are rows of `first_of`; what each begins is told by its own function, or is one character (Tells).
use native.Mathlib.Omega.{arith}
use mathlib.Core.Path.{◌≡◌, refl, sym, subst}
use Prim.Native.Nat.{◌≤◌}
use lib.ListN.{get_or}
use Rattle.laws.specs.Quoted.{code}
use Rattle.chars.specs.Blank.{is_blank}
use Rattle.chars.proofs.Cuts.{good_past}
use Rattle.items.specs.Kinds as kind
use Rattle.items.specs.Classes.{starts_run, first_of}
use Rattle.items.specs.declared.Quotes.TheVariants.{Double}
use Rattle.items.specs.declared.Phase.TheVariants as ph
use Rattle.lexer.specs.Glance.{GlanceAt}
use Rattle.items_telling.specs.declared.Quick.{Quick}
use Rattle.lexer.proofs.Glances.{begins}
use Rattle.items_telling.proofs.Firsts.{letter_solid, letter_first, digit_solid, digit_first}
use Rattle.lexer.proofs.Tells.{single_told}
use Rattle.lexer.proofs.Quotings.{quoting}
use Rattle.lexer.proofs.glance.quick_at.Goals as goal

pub quick_quoted-requires : goal.quick_quoted-requires
quick_quoted-requires c = (
  c.requires.0,
  quoting c.args.source.now c.args.at Double c.requires.1 c.in-34.is,
  good_past c.args.source.now c.args.at c.requires.2 c.requires.1 (omega (arith, c.in-34.is)),
)

pub quick_line-requires : goal.quick_line-requires
unfolding first_of starts_run is_blank
quick_line-requires c = (
  c.requires.0,
  begins c.args.source.now c.args.at (code ";") ph.InLine c.requires.1 c.in-59.is (omega arith) refl refl,
  good_past c.args.source.now c.args.at c.requires.2 c.requires.1 (omega (arith, c.in-59.is)),
)

pub quick_hash-requires : goal.quick_hash-requires
quick_hash-requires c = (c.requires.0, record { some = c.requires.1; sharp = c.in-35.is }, c.requires.2)

pub quick_run-requires : goal.quick_run-requires
quick_run-requires c =
    let b = get_or c.args.source.now c.args.at 0 in
    let low : code "0" ≤ b = omega (arith, c.in-48-to-57.if-this-lt48-own.false) in
    let high : b ≤ code "9" = omega (arith, c.in-48-to-57.if-this-lt58-own.true) in
    (c.requires.0, begins c.args.source.now c.args.at b ph.InRun c.requires.1 refl (omega arith) (digit_solid b low high) (digit_first b low high))

pub quick_word-requires : goal.quick_word-requires
quick_word-requires c =
    let b = get_or c.args.source.now c.args.at 0 in
    let other : b ≡ code "`" → ⊥ = c.in-97-to-122.in_default-own.rest.0.0.0.1 in
    let low : code "a" ≤ b = omega (arith, c.in-97-to-122.if-this-lt96-own.false) in
    let high : b ≤ code "z" = omega (arith, c.in-97-to-122.if-this-lt123-own.true) in
    (c.requires.0, begins c.args.source.now c.args.at b ph.InWord c.requires.1 refl (omega arith) (letter_solid b low high) (letter_first b low high))

pub returns-in-40 : goal.returns-in-40
unfolding first_of starts_run is_blank
returns-in-40 c =
    subst (λ (q : Quick). GlanceAt c.args.source.now c.args.report c.args.skip c.args.at q) (sym c.bracket.ensures) (
      refl,
      omega arith,
      single_told c.args.source.now c.args.report
          c.args.skip c.args.at (code "(") kind.OpenParen kind.Round c.requires.1 c.in-40.is (omega arith) refl refl refl,
    )

pub returns-in-41 : goal.returns-in-41
unfolding first_of starts_run is_blank
returns-in-41 c =
    subst (λ (q : Quick). GlanceAt c.args.source.now c.args.report c.args.skip c.args.at q) (sym c.bracket-in-41.ensures) (
      refl,
      omega arith,
      single_told c.args.source.now c.args.report
          c.args.skip c.args.at (code ")") kind.CloseParen kind.Round c.requires.1 c.in-41.is (omega arith) refl refl refl,
    )

pub returns-in-91 : goal.returns-in-91
unfolding first_of starts_run is_blank
returns-in-91 c =
    subst (λ (q : Quick). GlanceAt c.args.source.now c.args.report c.args.skip c.args.at q) (sym c.bracket-in-91.ensures) (
      refl,
      omega arith,
      single_told c.args.source.now c.args.report
          c.args.skip c.args.at (code "[") kind.OpenParen kind.Square c.requires.1 c.in-91.is (omega arith) refl refl refl,
    )

pub returns-in-93 : goal.returns-in-93
unfolding first_of starts_run is_blank
returns-in-93 c =
    subst (λ (q : Quick). GlanceAt c.args.source.now c.args.report c.args.skip c.args.at q) (sym c.bracket-in-93.ensures) (
      refl,
      omega arith,
      single_told c.args.source.now c.args.report
          c.args.skip c.args.at (code "]") kind.CloseParen kind.Square c.requires.1 c.in-93.is (omega arith) refl refl refl,
    )

pub returns-in-123 : goal.returns-in-123
unfolding first_of starts_run is_blank
returns-in-123 c =
    subst (λ (q : Quick). GlanceAt c.args.source.now c.args.report c.args.skip c.args.at q) (sym c.bracket-in-123.ensures) (
      refl,
      omega arith,
      single_told c.args.source.now c.args.report
          c.args.skip c.args.at (code "{") kind.OpenParen kind.Curly c.requires.1 c.in-123.is (omega arith) refl refl refl,
    )

pub returns-in-125 : goal.returns-in-125
unfolding first_of starts_run is_blank
returns-in-125 c =
    subst (λ (q : Quick). GlanceAt c.args.source.now c.args.report c.args.skip c.args.at q) (sym c.bracket-in-125.ensures) (
      refl,
      omega arith,
      single_told c.args.source.now c.args.report
          c.args.skip c.args.at (code "}") kind.CloseParen kind.Curly c.requires.1 c.in-125.is (omega arith) refl refl refl,
    )

pub returns-in-39 : goal.returns-in-39
unfolding first_of starts_run is_blank
returns-in-39 c =
    subst (λ (q : Quick). GlanceAt c.args.source.now c.args.report c.args.skip c.args.at q) (sym c.bare.ensures) (
      refl,
      omega arith,
      single_told c.args.source.now c.args.report
          c.args.skip c.args.at (code "'") kind.QuoteTick 0 c.requires.1 c.in-39.is (omega arith) refl refl refl,
      λ depth. refl,
    )

pub returns-in-96 : goal.returns-in-96
unfolding first_of starts_run is_blank
returns-in-96 c =
    subst (λ (q : Quick). GlanceAt c.args.source.now c.args.report c.args.skip c.args.at q) (sym c.bare-in-96.ensures) (
      refl,
      omega arith,
      single_told c.args.source.now c.args.report
          c.args.skip c.args.at (code "`") kind.QuasiQuote 0 c.requires.1 c.in-96.is (omega arith) refl refl refl,
      λ depth. refl,
    )

pub returns-in-34 : goal.returns-in-34
returns-in-34 c = c.quick_quoted.ensures c.args.report c.args.skip

pub returns-in-59 : goal.returns-in-59
returns-in-59 c = c.quick_line.ensures c.args.report

pub returns-in-35 : goal.returns-in-35
returns-in-35 c = c.quick_hash.ensures c.args.report

pub returns-in-48-to-57 : goal.returns-in-48-to-57
returns-in-48-to-57 c = c.quick_run.ensures c.args.skip

pub returns-in-97-to-122 : goal.returns-in-97-to-122
returns-in-97-to-122 c = c.quick_word.ensures c.args.report c.args.skip
