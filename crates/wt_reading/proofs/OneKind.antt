-- A kind of which the test of another holds is that one.
use Rattle.std.proofs.Common.{◌≡◌, true, refl, ap, sym, arith}
use Rattle.std.proofs.lemmas.Bool.Decides.{nat_tests}
use denote.Enum.Bare.{same_true}
use Rattle.wt_lex.specs.contracts.token.Sym as mark
use Rattle.wt_lex.specs.contracts.words.Word as word
use Rattle.wt_reading.specs.declared.lexeme.Kind.{Kind}
use Rattle.wt_reading.specs.declared.lexeme.Kind.TheVariants.{End, Key, Name, Number, Text, Mark, Odd}
use Rattle.wt_reading.specs.Lexemes.{is_kind}

pub kind_is : (w k : Kind) → is_kind w k ≡ true → k ≡ w
kind_is End End h = refl
kind_is (Key w) (Key v) h = ap Key (sym (same_true word.the_type tt w v h))
kind_is Name Name h = refl
kind_is (Number n) (Number m) h = ap Number (sym (grind (arith, nat_tests)))
kind_is Text Text h = refl
kind_is (Mark s) (Mark t) h = ap Mark (sym (same_true mark.the_type tt s t h))
kind_is Odd Odd h = refl
kind_is _ _ h = absurd cc
