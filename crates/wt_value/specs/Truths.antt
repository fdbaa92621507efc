-- SQL's three-valued logic.
use Rattle.std.specs.Prelude.{Bool, true, false}
use Rattle.std.specs.Ordering.{int_eq}
use Rattle.std.specs.Str.{bytes_eq}
use Rattle.wt_value.specs.declared.value.Truth.{Truth}
use Rattle.wt_value.specs.declared.value.Truth.TheVariants.{False, Unknown, True}
use Rattle.wt_value.specs.declared.value.Value.{Value}
use Rattle.wt_value.specs.declared.value.Value.TheVariants.{Null, Int, Text}

abbrev pub truth_of : Bool → Truth
truth_of true = True
truth_of false = False

-- the least of two under False < Unknown < True
abbrev pub and_of : Truth → Truth → Truth
and_of False _ = False
and_of Unknown False = False
and_of Unknown _ = Unknown
and_of True t = t

-- the greatest of two under False < Unknown < True
abbrev pub or_of : Truth → Truth → Truth
or_of False t = t
or_of Unknown True = True
or_of Unknown _ = Unknown
or_of True _ = True

-- exchanges True and False
abbrev pub not_of : Truth → Truth
not_of False = True
not_of Unknown = Unknown
not_of True = False

-- IS NULL, which is never Unknown
abbrev pub is_null : Value → Truth
is_null Null = True
is_null _ = False

-- equality as a comparison: Unknown where a value is NULL or the kinds differ
abbrev pub equality : Value → Value → Truth
equality (Int x) (Int y) = truth_of (int_eq x y)
equality (Text s) (Text t) = truth_of (bytes_eq s t)
equality _ _ = Unknown
