-- Data and numbers, as a reader of code finds them.
use Rattle.std.specs.Prelude.{ℕ, if◌then◌else◌, ℤ, List, Bool, Option, Some, None}
use Rattle.mt_tree.specs.declared.data.Data.{Data}
use Rattle.mt_tree.specs.declared.data.Data.TheOpen.{Data-F}
use Rattle.mt_tree.specs.declared.data.Data.TheFolds.{fold-Data}
use Rattle.mt_syntax.specs.Shape.{is_number}
use Rattle.mt_json.specs.DataAt.{data_at, is_within as is_within_limits}
use Rattle.mt_json.specs.Reading.{◌>>=◌}

-- whether the datum is within the limits by itself
abbrev pub is_within : Data → Bool
is_within = is_within_limits

-- the datum within the limits whose tagged JSON the bytes are
abbrev pub datum_of : List ℕ → Option Data
datum_of = data_at

abbrev pub number_step : Data-F (Option ℤ) (Option ℤ) → Option ℤ
number_step (Data-F.Num n) = Some n
number_step _ = None

-- the number that a datum is
abbrev pub number_in : Data → Option ℤ
number_in = fold-Data (Option ℤ) (Option ℤ) number_step (λ e. None)

-- one that a source can have
abbrev pub unsigned : ℤ → Option ℤ
unsigned n = if is_number n then Some n else None

-- the number that a datum is, if a source can have it
abbrev pub unsigned_in : Data → Option ℤ
unsigned_in d = number_in d >>= unsigned

unfoldable pub number_of : List ℕ → Option ℤ
number_of word = datum_of word >>= unsigned_in
