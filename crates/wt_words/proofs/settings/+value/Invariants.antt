use Rattle.std.proofs.Common.{length, ◌≡◌, ◌+◌, ◌-◌, ◌*◌, ◌^◌, ◌<◌, ◌≤◌, ◌==◌, true, is_some, map, string_bytes, ℕ}
use Rattle.std.specs.List.{list_all, list_any}
use Rattle.wt_words.specs.Settings as spec
use Rattle.wt_words.proofs.settings.+value.Given as goal

-- proposed from what the function passes where it calls itself
abbrev pub decreases-value : goal.decreases-value
decreases-value l = length l.word.now
