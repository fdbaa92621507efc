-- Laws of three truth values.
use Rattle.std.proofs.Common.{◌≡◌, ◌≢◌, refl}
use Rattle.wt_value.specs.declared.value.Truth.{Truth}
use Rattle.wt_value.specs.declared.value.Truth.TheVariants.{False, Unknown, True}
use Rattle.wt_value.specs.Truths.{and_of, or_of, not_of}

pub and_assoc : (a b c : Truth) → and_of (and_of a b) c ≡ and_of a (and_of b c)
and_assoc False b c = refl
and_assoc Unknown False c = refl
and_assoc Unknown Unknown False = refl
and_assoc Unknown Unknown Unknown = refl
and_assoc Unknown Unknown True = refl
and_assoc Unknown True c = refl
and_assoc True b c = refl

pub and_true : (a : Truth) → and_of a True ≡ a
and_true False = refl
and_true Unknown = refl
and_true True = refl

pub or_assoc : (a b c : Truth) → or_of (or_of a b) c ≡ or_of a (or_of b c)
or_assoc False b c = refl
or_assoc Unknown False c = refl
or_assoc Unknown Unknown False = refl
or_assoc Unknown Unknown Unknown = refl
or_assoc Unknown Unknown True = refl
or_assoc Unknown True c = refl
or_assoc True b c = refl

pub or_false : (a : Truth) → or_of a False ≡ a
or_false False = refl
or_false Unknown = refl
or_false True = refl

pub ruleset connectives = (and_assoc, and_true, or_assoc, or_false)

-- AND is not True where one side is not, and not False where neither is
pub and_not_true_left : (a b : Truth) → a ≢ True → and_of a b ≢ True
and_not_true_left False b h e = cc
and_not_true_left Unknown False h e = cc
and_not_true_left Unknown Unknown h e = cc
and_not_true_left Unknown True h e = cc
and_not_true_left True b h e = h refl

pub and_not_true_right : (a b : Truth) → b ≢ True → and_of a b ≢ True
and_not_true_right False b h e = cc
and_not_true_right Unknown False h e = cc
and_not_true_right Unknown Unknown h e = cc
and_not_true_right Unknown True h e = cc
and_not_true_right True b h e = h e

pub and_not_false : (a b : Truth) → a ≢ False → b ≢ False → and_of a b ≢ False
and_not_false False b h k e = h refl
and_not_false Unknown False h k e = k refl
and_not_false Unknown Unknown h k e = cc
and_not_false Unknown True h k e = cc
and_not_false True b h k e = k e

-- OR is not False where one side is not, and not True where neither is
pub or_not_true : (a b : Truth) → a ≢ True → b ≢ True → or_of a b ≢ True
or_not_true False b h k e = k e
or_not_true Unknown False h k e = cc
or_not_true Unknown Unknown h k e = cc
or_not_true Unknown True h k e = k refl
or_not_true True b h k e = h refl

pub or_not_false_left : (a b : Truth) → a ≢ False → or_of a b ≢ False
or_not_false_left False b h e = h refl
or_not_false_left Unknown False h e = cc
or_not_false_left Unknown Unknown h e = cc
or_not_false_left Unknown True h e = cc
or_not_false_left True b h e = cc

pub or_not_false_right : (a b : Truth) → b ≢ False → or_of a b ≢ False
or_not_false_right False b h e = h e
or_not_false_right Unknown False h e = cc
or_not_false_right Unknown Unknown h e = cc
or_not_false_right Unknown True h e = cc
or_not_false_right True b h e = cc

-- NOT exchanges the two
pub not_not_true : (a : Truth) → a ≢ False → not_of a ≢ True
not_not_true False h e = h refl
not_not_true Unknown h e = cc
not_not_true True h e = cc

pub not_not_false : (a : Truth) → a ≢ True → not_of a ≢ False
not_not_false False h e = cc
not_not_false Unknown h e = cc
not_not_false True h e = h refl
