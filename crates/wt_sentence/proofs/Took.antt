-- The first tokens are a sentence.
use Rattle.std.proofs.Common.{◌≡◌, ℕ, Bool, false, drop, refl}
use Rattle.wt_reading.specs.declared.lexeme.Kind.{Kind}
use Rattle.wt_reading.specs.declared.lexeme.Kind.TheVariants.{End}
use Rattle.wt_reading.specs.Lexemes.{Tokens}
use Rattle.wt_reading.specs.Readings.{more}
use Rattle.wt_grammar.specs.Reading.{Read, run, one_or}
use Rattle.wt_ast.specs.Tree.{CondTree, CondTrees}
use Rattle.wt_reading.specs.Sentences.{Seq, Behind}
use Rattle.wt_sentence.specs.Grammar.{Run}
use Rattle.wt_reading.proofs.Took.{Sound, took_then, took_as, behind_sound}
use Rattle.wt_reading.proofs.Inversions.{followed_ok, last_ok}

pub run_sound : (sep : Kind → Bool) (whole : ℕ → CondTrees → CondTree) (Part : CondTree → Tokens → Type 0) (part : Tokens → Read CondTree) → sep End ≡ false → Sound Part part
    → Sound (Run sep whole Part) (run sep whole part)
unfolding run
run_sound sep whole Part part sep_end part_sound ts c n h =
    let (x, m, k, r, q, e) = followed_ok ts (part ts) _ c n h in
    let (xs, q', is) = last_ok (drop m ts) (more sep part 0 (drop m ts)) (λ zs. one_or whole x zs) c k q in
    took_as (Seq (Part x) (Behind sep Part xs)) (Run sep whole Part c) ts n n (λ a p. (x, xs, p, is)) refl
    (took_then (Part x) (Behind sep Part xs) ts m k n (part_sound ts x m r) (behind_sound sep Part part part_sound sep_end xs (drop m ts) k q') e)
