-- What the operators and the errors keep of a lawful store.
use Rattle.std.proofs.Common.{◌≡◌, ℕ, zero, suc, ◌*◌, ◌≤◌, ◌||◌, ℤ, Bool, true, false, List, [], ◌∷◌, ◌++◌, length, take, Option, None, Some, refl, sym, subst, arith}
use Rattle.std.specs.Prelude.{Result, Ok, Err, IfOk, IsTrue, codes, if◌then◌else◌, All, not, ◌==◌, ◌+ℤ◌, ◌-ℤ◌, ◌*ℤ◌, neg_ℤ, int_lt, int_le, int_div, int_rem, unsigned_abs}
use Rattle.std.proofs.lemmas.Bool.Decides.{nat_tests}
use Rattle.std.proofs.lemmas.List.Elements.{All-nil, All-cons}
use Rattle.mt_tree.specs.Text.{units_in, units_of}
use Rattle.mt_ops.proofs.Texts.{units_joined}
use Rattle.mt_ops.specs.Errors.{cut, operator_text, error_name, error_message, error_cell, text_property, settled}
use Rattle.mt_ops.specs.Lawful.{StaysLawful, LawfulAnswer}
use Rattle.mt_ops.specs.Numbers.{within, sum, difference, product, quotient, remainder}
use Rattle.mt_ops.specs.Order.{comes_before}
use Rattle.mt_ops.specs.Operators.{number_or_error, arithmetic, both, concatenation, addition, comparison, binary_of, negation, itself, unary_of, is_text}
use Rattle.mt_ops.specs.Texts.{join_text, joined, type_name, native_type}
use Rattle.mt_ops.specs.declared.error.ErrorKind.{ErrorKind}
use Rattle.mt_ops.specs.declared.error.ErrorKind.TheVariants as error
use Rattle.mt_ops.specs.declared.error.Operator.{Operator}
use Rattle.mt_ops.specs.declared.error.Operator.TheVariants as operator
use Rattle.mt_ops.specs.declared.outcome.Outcome.{Outcome}
use Rattle.mt_ops.specs.declared.outcome.Outcome.TheVariants as outcome
use Rattle.mt_tree.specs.declared.operators.Binary.{Binary}
use Rattle.mt_tree.specs.declared.operators.Binary.TheVariants as binary
use Rattle.mt_tree.specs.declared.operators.Unary.{Unary}
use Rattle.mt_tree.specs.declared.operators.Unary.TheVariants as unary
use Rattle.mt_tree.specs.declared.fault.NoMemory.{NoMemory}
use Rattle.mt_value.proofs.Laws.{keeps_added, lawful_added}
use Rattle.mt_value.specs.Lawful.{Kind, Names, LawfulValue, LawfulCell, Lawful}
use Rattle.mt_syntax.specs.Data.{is_in_range}
use Rattle.mt_value.specs.Limits.{text_fits}
use Rattle.mt_value.specs.declared.cell.Cell.{Cell}
use Rattle.mt_value.specs.declared.cell.Property.{Property}
use Rattle.mt_value.specs.declared.value.Native.{Native}
use Rattle.mt_value.specs.declared.value.Native.TheVariants as native
use Rattle.mt_value.specs.declared.value.Value.{Value}
use Rattle.mt_value.specs.declared.value.Value.TheVariants as value

-- ---- messages

units_in-le : (c : ℕ) → units_in c ≤ 2
units_in-le c = grind (arith, nat_tests)

units_taken : (n : ℕ) (cs : List ℕ) → units_of (take n cs) ≤ 2 * n
units_taken zero cs = omega arith
units_taken (suc n) [] = omega arith
units_taken (suc n) (c ∷ cs) = omega (arith, units_taken n cs, units_in-le c)

short : (text : List ℕ) → units_of text ≤ 200 → IsTrue (text_fits text)
short text h = grind (arith, nat_tests)

before_name : (before name : List ℕ) → units_of before ≤ 40 → IsTrue (text_fits (before ++ cut name))
before_name before name h = short (before ++ cut name) (omega (arith, units_joined before (cut name), units_taken 64 name))

after_name : (name after : List ℕ) → units_of after ≤ 40 → IsTrue (text_fits (cut name ++ after))
after_name name after h = short (cut name ++ after) (omega (arith, units_joined (cut name) after, units_taken 64 name))

operator_units : (op : Operator) → IsTrue (text_fits (codes "operands do not fit " ++ operator_text op))
operator_units operator.Plus = refl
operator_units operator.Minus = refl
operator_units operator.Times = refl
operator_units operator.Over = refl
operator_units operator.Remainder = refl
operator_units operator.Less = refl
operator_units operator.LessEqual = refl
operator_units operator.Greater = refl
operator_units operator.GreaterEqual = refl
operator_units operator.Increment = refl
operator_units operator.Decrement = refl

message_fits : (e : ErrorKind) → IsTrue (text_fits (error_message e))
unfolding error_message
message_fits (error.NotDefined name) = after_name name (codes " is not defined") (omega arith)
message_fits (error.BeforeDeclaration name) = after_name name (codes " is read before its declaration") (omega arith)
message_fits (error.Constant name) = after_name name (codes " is a constant") (omega arith)
message_fits (error.OperandsDoNotFit op) = operator_units op
message_fits error.NumberOutOfRange = refl
message_fits error.InexactDivision = refl
message_fits error.DivisionByZero = refl
message_fits error.TextTooLong = refl
message_fits error.CutInsideCharacter = refl
message_fits error.NotFunction = refl
message_fits (error.NoSuchProperty key) = before_name (codes "no such property: ") key (omega arith)
message_fits (error.BadPropertyName key) = before_name (codes "bad property name: ") key (omega arith)
message_fits error.IndexOutOfRange = refl
message_fits (error.BadArgument name) = before_name (codes "bad argument of ") name (omega arith)
message_fits error.NulInHtml = refl
message_fits error.CannotStandInHtml = refl
message_fits error.HtmlTooLarge = refl
message_fits error.TooManyPosts = refl
message_fits (error.UnknownTag tag) = before_name (codes "unknown tag: ") tag (omega arith)
message_fits (error.BadAttribute name) = before_name (codes "bad attribute: ") name (omega arith)
message_fits error.CannotHoldChildren = refl
message_fits error.CannotBeMoved = refl
message_fits error.NotPage = refl

name_fits : (e : ErrorKind) → IsTrue (text_fits (error_name e))
unfolding error_name
name_fits (error.NotDefined name) = refl
name_fits (error.BeforeDeclaration name) = refl
name_fits (error.Constant name) = refl
name_fits (error.OperandsDoNotFit op) = refl
name_fits error.NumberOutOfRange = refl
name_fits error.InexactDivision = refl
name_fits error.DivisionByZero = refl
name_fits error.TextTooLong = refl
name_fits error.CutInsideCharacter = refl
name_fits error.NotFunction = refl
name_fits (error.NoSuchProperty key) = refl
name_fits (error.BadPropertyName key) = refl
name_fits error.IndexOutOfRange = refl
name_fits (error.BadArgument name) = refl
name_fits error.NulInHtml = refl
name_fits error.CannotStandInHtml = refl
name_fits error.HtmlTooLarge = refl
name_fits error.TooManyPosts = refl
name_fits (error.UnknownTag tag) = refl
name_fits (error.BadAttribute name) = refl
name_fits error.CannotHoldChildren = refl
name_fits error.CannotBeMoved = refl
name_fits error.NotPage = refl

-- ---- thrown errors

module _ (P : Property → Type 0) where
  both_hold : (p q : Property) → P p → P q → All P (p ∷ q ∷ [])
  both_hold p q h k = All-cons P p (q ∷ []) h (All-cons P q [] k (All-nil P))

error_lawful : (store : List Cell) (e : ErrorKind) → LawfulCell store (error_cell e)
error_lawful store e =
    let name = text_property (codes "name") (error_name e) in
    let message = text_property (codes "message") (error_message e) in
    record {
      values = both_hold (λ p. LawfulValue store p.value) name message (name_fits e) (message_fits e);
      texts = both_hold (λ p. IsTrue (text_fits p.name)) name message refl refl;
      names = refl;
      count = omega arith;
    }

added_object : (store : List Cell) (e : ErrorKind) → Names (store ++ error_cell e ∷ []) Kind.object (length store)
added_object [] e = refl
added_object (c ∷ store) e = added_object store e

pub settled_lawful : (meant : Result Value ErrorKind) (store : List Cell) → LawfulAnswer store meant → Lawful store → StaysLawful store (settled meant store).1 (settled meant store).0
settled_lawful (Ok v) store h lawful = record { store = lawful; value = h; keeps = λ kind at named. named }
settled_lawful (Err e) store h lawful =
    let grown = store ++ error_cell e ∷ [] in
    record {
      store = lawful_added store (error_cell e) lawful (error_lawful grown e);
      value = added_object store e;
      keeps = keeps_added store (error_cell e ∷ []);
    }

pub thrown_lawful : (old new : List Cell) (e : ErrorKind) (at : ℕ) → at ≡ length old → new ≡ old ++ error_cell e ∷ [] → Lawful old → StaysLawful old new (outcome.Throw (value.Obj at))
thrown_lawful old new e at place is lawful = rw (place, is) (settled_lawful (Err e) old tt lawful)

-- an answer that is the one meant leaves what is meant
pub answer_lawful : (result : Result Outcome NoMemory) (meant : Result Value ErrorKind) (old new : List Cell) → IfOk result (λ o. (o, new) ≡ settled meant old) → LawfulAnswer old meant → Lawful old → IfOk result (λ o. StaysLawful old new o)
answer_lawful (Ok o) meant old new is h lawful = subst (λ s. StaysLawful old s.1 s.0) (sym is) (settled_lawful meant old h lawful)
answer_lawful (Err e) meant old new is h lawful = tt

-- ---- operators

abbrev InRange : Result ℤ ErrorKind → Type 0
InRange (Ok n) = IsTrue (is_in_range n)
InRange (Err e) = Unit {0}

within_range : (n : ℤ) → InRange (within n)
within_range n = by (is_in_range n) refl
  where
    by : (b : Bool) → is_in_range n ≡ b → InRange (if b then Ok n else Err error.NumberOutOfRange)
    by true t = t
    by false f = tt

chosen : (b : Bool) (r s : Result ℤ ErrorKind) → InRange r → InRange s → InRange (if b then r else s)
chosen true r s h k = h
chosen false r s h k = k

quotient_range : (a b : ℤ) → InRange (quotient a b)
quotient_range a b =
    let whole = if unsigned_abs (int_rem a b) == 0 then within (int_div a b) else Err error.InexactDivision in
    chosen (unsigned_abs b == 0) (Err error.DivisionByZero) whole tt
    (chosen (unsigned_abs (int_rem a b) == 0) (within (int_div a b)) (Err error.InexactDivision) (within_range (int_div a b)) tt)

remainder_range : (a b : ℤ) → InRange (remainder a b)
remainder_range a b = chosen (unsigned_abs b == 0) (Err error.DivisionByZero) (within (int_rem a b)) tt (within_range (int_rem a b))

module _ (store : List Cell) where
  numbered : (r : Result ℤ ErrorKind) → InRange r → LawfulAnswer store (number_or_error r)
  numbered (Ok n) h = h
  numbered (Err e) h = tt

  joined_lawful : (a b : List ℕ) → LawfulAnswer store (joined a b)
  joined_lawful a b = by (text_fits (a ++ b)) refl
    where
      by : (r : Bool) → text_fits (a ++ b) ≡ r → LawfulAnswer store (if r then Ok (value.Text (a ++ b)) else Err error.TextTooLong)
      by true t = t
      by false f = tt

  both_lawful : (a b : Option (List ℕ)) → LawfulAnswer store (both a b)
  both_lawful (Some a) (Some b) = joined_lawful a b
  both_lawful (Some a) None = tt
  both_lawful None b = tt

  concatenation_lawful : (a b : Value) → LawfulAnswer store (concatenation a b)
  unfolding concatenation
  concatenation_lawful a b = by (is_text a || is_text b)
    where
      by : (r : Bool) → LawfulAnswer store (if r then both (join_text a) (join_text b) else Err (error.OperandsDoNotFit operator.Plus))
      by true = both_lawful (join_text a) (join_text b)
      by false = tt

  arithmetic_lawful : (op : Operator) (f : ℤ → ℤ → Result ℤ ErrorKind) → ((m n : ℤ) → InRange (f m n)) → (a b : Value) → LawfulAnswer store (arithmetic op f a b)
  unfolding arithmetic
  arithmetic_lawful op f h (value.Num a) (value.Num b) = numbered (f a b) (h a b)
  arithmetic_lawful op f h _ _ = tt

  addition_lawful : (a b : Value) → LawfulAnswer store (addition a b)
  unfolding addition
  addition_lawful (value.Num a) (value.Num b) = numbered (sum a b) (within_range (a +ℤ b))
  addition_lawful a b = concatenation_lawful a b

  comparison_lawful : (op : Operator) (f : ℤ → ℤ → Bool) (g : List ℕ → List ℕ → Bool) (a b : Value) → LawfulAnswer store (comparison op f g a b)
  unfolding comparison
  comparison_lawful op f g (value.Num a) (value.Num b) = tt
  comparison_lawful op f g (value.Text a) (value.Text b) = tt
  comparison_lawful op f g _ _ = tt

  pub binary_lawful : (op : Binary) (a b : Value) → LawfulAnswer store (binary_of op a b)
  unfolding binary_of
  binary_lawful binary.Add a b = addition_lawful a b
  binary_lawful binary.Sub a b = arithmetic_lawful operator.Minus difference (λ m n. within_range (m -ℤ n)) a b
  binary_lawful binary.Mul a b = arithmetic_lawful operator.Times product (λ m n. within_range (m *ℤ n)) a b
  binary_lawful binary.Div a b = arithmetic_lawful operator.Over quotient quotient_range a b
  binary_lawful binary.Rem a b = arithmetic_lawful operator.Remainder remainder remainder_range a b
  binary_lawful binary.Less a b = comparison_lawful operator.Less int_lt comes_before a b
  binary_lawful binary.LessEqual a b = comparison_lawful operator.LessEqual int_le (λ s t. not (comes_before t s)) a b
  binary_lawful binary.Greater a b = comparison_lawful operator.Greater (λ m n. int_lt n m) (λ s t. comes_before t s) a b
  binary_lawful binary.GreaterEqual a b = comparison_lawful operator.GreaterEqual (λ m n. int_le n m) (λ s t. not (comes_before s t)) a b
  binary_lawful binary.Same a b = tt
  binary_lawful binary.Different a b = tt

  negation_lawful : (v : Value) → LawfulAnswer store (negation v)
  unfolding negation
  negation_lawful (value.Num n) = numbered (within (neg_ℤ n)) (within_range (neg_ℤ n))
  negation_lawful _ = tt

  itself_lawful : (v : Value) → LawfulValue store v → LawfulAnswer store (itself v)
  unfolding itself
  itself_lawful (value.Num n) h = h
  itself_lawful _ h = tt

  native_fits : (n : Native) → IsTrue (text_fits (native_type n))
  native_fits native.Document = refl
  native_fits native.Event = refl
  native_fits _ = refl

  type_fits : (v : Value) → IsTrue (text_fits (type_name v))
  unfolding type_name
  type_fits value.Undefined = refl
  type_fits (value.Bool b) = refl
  type_fits (value.Num n) = refl
  type_fits (value.Text text) = refl
  type_fits (value.Fun at) = refl
  type_fits (value.Svc name) = refl
  type_fits (value.Native n) = native_fits n
  type_fits _ = refl

  pub unary_lawful : (op : Unary) (v : Value) → LawfulValue store v → LawfulAnswer store (unary_of op v)
  unfolding unary_of
  unary_lawful unary.Not v h = tt
  unary_lawful unary.Minus v h = negation_lawful v
  unary_lawful unary.Plus v h = itself_lawful v h
  unary_lawful unary.Typeof v h = type_fits v
