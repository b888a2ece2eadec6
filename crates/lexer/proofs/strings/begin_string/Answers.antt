-- What the bytes of the string tell, as one item that stands somewhere or as an error (Strung).
use native.Mathlib.Omega.{arith}
use mathlib.Core.Path.{subst}
use Prim.Native.Nat.{◌+◌}
use Rattle.items.specs.declared.Quotes.TheVariants.{Double}
use Rattle.items.specs.declared.Phase.TheVariants as ph
use Rattle.items_telling.specs.Strings.{StrungAs}
use Rattle.items_telling.specs.declared.Strung.{Strung}
use Rattle.lexer.proofs.Tells.{begins_inside}
use Rattle.lexer.proofs.Strung.{whole_stands, on_stands}
use Rattle.lexer.proofs.strings.begin_string.Goals as goal

pub overflow_add-at : goal.overflow_add-at
overflow_add-at c = omega (arith, begins_inside c.args.source.now c.args.at (c.args.at + 1) (ph.Quoted Double) c.requires)

pub string_at-requires : goal.string_at-requires
string_at-requires c = begins_inside c.args.source.now c.args.at (c.args.at + 1) (ph.Quoted Double) c.requires

pub returns-in-Whole : goal.returns-in-Whole
returns-in-Whole c =
    whole_stands c.args.source.now c.args.at c.requires c.in-Whole.end
    (subst (λ (r : Strung). StrungAs c.args.source.now (c.args.at + 1) r) c.in-Whole.is c.string_at.ensures)

pub returns-in-Fails : goal.returns-in-Fails
returns-in-Fails c =
    (c.requires, subst (λ (r : Strung). StrungAs c.args.source.now (c.args.at + 1) r) c.in-Fails.is c.string_at.ensures)

pub returns-in-On : goal.returns-in-On
returns-in-On c =
    on_stands c.args.source.now c.args.at c.requires c.in-On.from
    (subst (λ (r : Strung). StrungAs c.args.source.now (c.args.at + 1) r) c.in-On.is c.string_at.ensures)
