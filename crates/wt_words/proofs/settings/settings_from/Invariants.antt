use Rattle.std.proofs.Common.{◌≡◌, length, map, string_bytes}
use Rattle.wt_words.specs.Settings.{AreLimited, no_settings, settings_from}
use Rattle.wt_words.proofs.settings.settings_from.Given as goal

abbrev pub invariant-words : goal.invariant-words
invariant-words l = record {
  read : settings_from l.settings (map string_bytes l.words) ≡ settings_from no_settings (map string_bytes l.initial.words);
  limited : AreLimited l.settings;
}

abbrev pub decreases-words : goal.decreases-words
decreases-words l = length l.words
