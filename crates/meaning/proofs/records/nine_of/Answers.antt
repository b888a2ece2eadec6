-- Each way a text lies is a case of the last three words.
use Rattle.meaning.specs.Records.{TextFits}
use native.Mathlib.Omega.{arith}
use mathlib.Core.Path.{subst}
use Rattle.meaning.proofs.records.nine_of.Goals as goal

pub overflow_cast-start : goal.overflow_cast-start
overflow_cast-start c = omega (arith, subst (TextFits c.args.free) c.in-Source.is c.requires)

pub overflow_cast-end : goal.overflow_cast-end
overflow_cast-end c = omega (arith, subst (TextFits c.args.free) c.in-Source.is c.requires)

pub overflow_cast-free : goal.overflow_cast-free
overflow_cast-free c = omega (arith, subst (TextFits c.args.free) c.in-Decoded.is c.requires)

pub overflow_add-free : goal.overflow_add-free
overflow_add-free c = omega (arith, subst (TextFits c.args.free) c.in-Decoded.is c.requires)

pub overflow_cast-free-in-Decoded : goal.overflow_cast-free-in-Decoded
overflow_cast-free-in-Decoded c = omega (arith, subst (TextFits c.args.free) c.in-Decoded.is c.requires)

pub returns-in-Nowhere : goal.returns-in-Nowhere
returns-in-Nowhere c = rw c.in-Nowhere.is c.with_text.ensures

pub returns-in-Source : goal.returns-in-Source
returns-in-Source c = rw c.in-Source.is c.with_text-in-Source.ensures

pub returns-in-Decoded : goal.returns-in-Decoded
returns-in-Decoded c = rw c.in-Decoded.is c.with_text-in-Decoded.ensures
