use Rattle.std.proofs.Common.{◌≡◌, length}
use Rattle.wt_words.specs.Settings.{are_different}
use Rattle.wt_words.proofs.settings.are_different.Given as goal

abbrev pub invariant-letters : goal.invariant-letters
invariant-letters l = are_different l.word ≡ are_different l.initial.word

abbrev pub decreases-letters : goal.decreases-letters
decreases-letters l = length l.word
