-- The words `key=value` of `discover`.
use Rattle.std.specs.Prelude.{ℕ, ◌+◌, ◌-◌, ◌*◌, ◌^◌, ◌==◌, ◌≤◌, nat_le, nat_lt, Bool, true, false, not, ◌&&◌, ◌||◌, List, [], ◌∷◌, length, codes, is_some, Some, None, IfSome, Result, Ok, Err, if◌then◌else◌}
use Rattle.std.specs.List.{list_all, list_any, position_or_len, before_first, after_first}
use Rattle.std.specs.Str.{bytes_eq}
use Rattle.std.specs.declared.option.Option.{Option}
use Rattle.wt_template.specs.declared.Ops.{Ops}
use Rattle.wt_words.specs.declared.fault.UsageFault.{UsageFault}
use Rattle.wt_words.specs.declared.fault.UsageFault.TheVariants.{UnknownKey, RepeatedKey, BadNumber, OutOfRange, BadOps}
use Rattle.wt_words.specs.declared.settings.Key.{Key}
use Rattle.wt_words.specs.declared.settings.Key.TheVariants as keys
use Rattle.wt_words.specs.declared.settings.Settings.{Settings}

-- Numbers: decimal digits without a leading zero, of which 48 is `0`; each digit counts by its place.

abbrev pub is_digit : ℕ → Bool
is_digit b = nat_le 48 b && nat_le b 57

abbrev pub is_number : List ℕ → Bool
is_number [] = false
is_number (b ∷ bs) = list_all is_digit (b ∷ bs) && (not (b == 48) || bytes_eq bs [])

abbrev pub value : List ℕ → ℕ
value [] = 0
value (b ∷ bs) = (b - 48) * 10 ^ length bs + value bs

-- a number from `low` to `high`; one of more than ten digits is out of range
abbrev pub number : ℕ → ℕ → List ℕ → Result ℕ UsageFault
number low high word =
    if is_number word then (if nat_le (length word) 10 && nat_le low (value word) && nat_le (value word) high then Ok (value word) else Err OutOfRange)
    else Err BadNumber

-- Operators: one to six different letters of PFILSD, which have the bits 0 to 5.

abbrev pub has : ℕ → List ℕ → Bool
has letter word = list_any (λ b. b == letter) word

abbrev pub is_letter : ℕ → Bool
is_letter b = has b (codes "PFILSD")

abbrev pub are_different : List ℕ → Bool
are_different [] = true
are_different (b ∷ bs) = not (has b bs) && are_different bs

abbrev pub flag : List ℕ → ℕ → ℕ → ℕ
flag word letter bit = if has letter word then bit else 0

abbrev pub ops_of : List ℕ → Ops
ops_of word = record { 0 = flag word 80 1 + (flag word 70 2 + (flag word 73 4 + (flag word 76 8 + (flag word 83 16 + flag word 68 32)))) }

abbrev pub letters : List ℕ → Result Ops UsageFault
letters word = if not (bytes_eq word []) && (list_all is_letter word && are_different word) then Ok (ops_of word) else Err BadOps

-- Keys, each at most once.

abbrev pub key_of : List ℕ → Option Key
key_of name =
    if bytes_eq name (codes "src") then Some keys.Src
    else if bytes_eq name (codes "dst") then Some keys.Dst
    else if bytes_eq name (codes "ops") then Some keys.Ops
    else if bytes_eq name (codes "depth") then Some keys.Depth
    else if bytes_eq name (codes "steps") then Some keys.Steps
    else if bytes_eq name (codes "workers") then Some keys.Workers
    else None

abbrev pub has_key : Key → Settings → Bool
has_key keys.Src s = is_some s.src
has_key keys.Dst s = is_some s.dst
has_key keys.Ops s = is_some s.ops
has_key keys.Depth s = is_some s.depth
has_key keys.Steps s = is_some s.steps
has_key keys.Workers s = is_some s.workers

-- the settings with one more number, or the fault of its value
abbrev pub set : {T : Type 0} → (T → Settings) → Result T UsageFault → Result Settings UsageFault
set f (Ok n) = Ok (f n)
set f (Err fault) = Err fault

abbrev pub with_value : Key → List ℕ → Settings → Result Settings UsageFault
with_value keys.Src word s = set (λ n. record { src = Some n; dst = s.dst; ops = s.ops; depth = s.depth; steps = s.steps; workers = s.workers }) (number 1 4 word)
with_value keys.Dst word s = set (λ n. record { src = s.src; dst = Some n; ops = s.ops; depth = s.depth; steps = s.steps; workers = s.workers }) (number 0 4 word)
with_value keys.Ops word s = set (λ n. record { src = s.src; dst = s.dst; ops = Some n; depth = s.depth; steps = s.steps; workers = s.workers }) (letters word)
with_value keys.Depth word s = set (λ n. record { src = s.src; dst = s.dst; ops = s.ops; depth = Some n; steps = s.steps; workers = s.workers }) (number 0 64 word)
with_value keys.Steps word s = set (λ n. record { src = s.src; dst = s.dst; ops = s.ops; depth = s.depth; steps = Some n; workers = s.workers }) (number 1 16 word)
with_value keys.Workers word s = set (λ n. record { src = s.src; dst = s.dst; ops = s.ops; depth = s.depth; steps = s.steps; workers = Some n }) (number 1 64 word)

abbrev pub keyed : Settings → Option Key → List ℕ → Result Settings UsageFault
keyed s None word = Err UnknownKey
keyed s (Some key) word = if has_key key s then Err RepeatedKey else with_value key word s

-- 61 is `=`
abbrev pub is_sign : ℕ → Bool
is_sign b = b == 61

-- the settings with one more word; a word without `=` has no key
abbrev pub setting : Settings → List ℕ → Result Settings UsageFault
setting s word =
    if nat_lt (position_or_len is_sign word) (length word) then keyed s (key_of (before_first is_sign word)) (after_first is_sign word) else Err UnknownKey

-- what follows where there is no fault
abbrev pub after : Result Settings UsageFault → (Settings → Result Settings UsageFault) → Result Settings UsageFault
after (Ok s) next = next s
after (Err fault) next = Err fault

-- the settings with all words, which are taken from left to right; the first fault counts
abbrev pub settings_from : Settings → List (List ℕ) → Result Settings UsageFault
settings_from s [] = Ok s
settings_from s (word ∷ words) = after (setting s word) (λ t. settings_from t words)

-- no key yet
abbrev pub no_settings : Settings
no_settings = record { src = None; dst = None; ops = None; depth = None; steps = None; workers = None }

-- each number that is there is within its limits
pub record AreLimited (s : Settings) : Type 0 where
  pub src : IfSome s.src (λ n. (1 ≤ n) × (n ≤ 4))
  pub dst : IfSome s.dst (λ n. n ≤ 4)
  pub depth : IfSome s.depth (λ n. n ≤ 64)
  pub steps : IfSome s.steps (λ n. (1 ≤ n) × (n ≤ 16))
  pub workers : IfSome s.workers (λ n. (1 ≤ n) × (n ≤ 64))
