-- Arithmetic on whole numbers within 2^53 - 1 in size.
use Rattle.std.specs.Prelude.{ℤ, ◌+ℤ◌, ◌-ℤ◌, ◌*ℤ◌, ◌==◌, if◌then◌else◌, Result, Ok, Err, int_div, int_rem, unsigned_abs}
use Rattle.mt_ops.specs.declared.error.ErrorKind.{ErrorKind}
use Rattle.mt_ops.specs.declared.error.ErrorKind.TheVariants as error
use Rattle.mt_syntax.specs.Data.{is_in_range}

-- the number, where it is in range
abbrev pub within : ℤ → Result ℤ ErrorKind
within n = if is_in_range n then Ok n else Err error.NumberOutOfRange

abbrev pub sum : ℤ → ℤ → Result ℤ ErrorKind
sum a b = within (a +ℤ b)

abbrev pub difference : ℤ → ℤ → Result ℤ ErrorKind
difference a b = within (a -ℤ b)

abbrev pub product : ℤ → ℤ → Result ℤ ErrorKind
product a b = within (a *ℤ b)

-- the whole number whose product with b is a
abbrev pub quotient : ℤ → ℤ → Result ℤ ErrorKind
quotient a b =
    if unsigned_abs b == 0 then Err error.DivisionByZero else
    if unsigned_abs (int_rem a b) == 0 then within (int_div a b) else Err error.InexactDivision

-- what is left of a by b, with the sign of a
abbrev pub remainder : ℤ → ℤ → Result ℤ ErrorKind
remainder a b = if unsigned_abs b == 0 then Err error.DivisionByZero else within (int_rem a b)
