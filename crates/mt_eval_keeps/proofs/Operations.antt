-- What the operations on a store leave of it, and of what is the host's own in it.
use Rattle.std.proofs.Common.{◌≡◌, ℕ, zero, suc, ◌||◌, nat_lt, ℤ, pos, negsuc, List, [], ◌∷◌, ◌++◌, length, Option, None, Some, Bool, true, false, not, Result, Ok, Err, refl, subst}
use Rattle.std.specs.Prelude.{All, slice_get, codes, if◌then◌else◌, neg_ℤ, int_lt, int_le}
use Rattle.std.specs.Option.{option_map}
use Rattle.std.proofs.lemmas.List.Elements.{All-head, All-tail}
use Rattle.mt_eval_keeps.specs.Growth.{Owning, OwnValue, OwnCell}
use Rattle.mt_eval_keeps.proofs.Steps.{OwnAnswer}
use Rattle.mt_eval_meaning.specs.Expressions.{stepped, step_binary}
use Rattle.mt_ops.proofs.Lawfulness.{binary_lawful}
use Rattle.mt_ops.specs.Lawful.{LawfulAnswer}
use Rattle.mt_ops.specs.Numbers.{within, sum, difference, product, quotient, remainder}
use Rattle.mt_ops.specs.Operators.{number_or_error, arithmetic, both, concatenation, addition, comparison, binary_of, negation, itself, unary_of, is_text}
use Rattle.mt_ops.specs.Order.{comes_before}
use Rattle.mt_ops.specs.Texts.{join_text, joined}
use Rattle.mt_ops.specs.declared.error.ErrorKind.{ErrorKind}
use Rattle.mt_ops.specs.declared.error.ErrorKind.TheVariants as error
use Rattle.mt_ops.specs.declared.error.Operator.{Operator}
use Rattle.mt_ops.specs.declared.error.Operator.TheVariants as operator
use Rattle.mt_ops_properties.specs.Arrays.{or_undefined, item_at, array_property}
use Rattle.mt_ops_properties.specs.Keys.{no_such}
use Rattle.mt_ops_properties.specs.Objects.{name_of, place_of, value_at, named_value, object_property}
use Rattle.mt_ops_properties.specs.Properties.{cell_property, property}
use Rattle.mt_ops_properties.specs.Texts.{part_or_error, text_property}
use Rattle.mt_tree.specs.declared.operators.Binary.{Binary}
use Rattle.mt_tree.specs.declared.operators.Binary.TheVariants as binary
use Rattle.mt_tree.specs.declared.operators.StepKind.{StepKind}
use Rattle.mt_tree.specs.declared.operators.Unary.{Unary}
use Rattle.mt_tree.specs.declared.operators.Unary.TheVariants as unary
use Rattle.mt_tree.specs.Units.{cut}
use Rattle.mt_tree.specs.Text.{units_of}
use Rattle.mt_value.specs.Limits.{text_fits}
use Rattle.mt_value.specs.Names.{is_same}
use Rattle.mt_value.specs.declared.cell.Cell.{Cell}
use Rattle.mt_value.specs.declared.cell.Cell.TheVariants as cell
use Rattle.mt_value.specs.declared.cell.Property.{Property}
use Rattle.mt_value.specs.declared.value.Value.{Value}
use Rattle.mt_value.specs.declared.value.Value.TheVariants as value

pub all_at : {A : Type 0} (P : A → Type 0) (xs : List A) (i : ℕ) (x : A) → All P xs → slice_get xs i ≡ Some x → P x
all_at P [] i x h is = absurd (cc)
all_at P (y ∷ xs) zero x h is = let same : y ≡ x = cc in subst P same (All-head P y xs h)
all_at P (y ∷ xs) (suc i) x h is = all_at P xs i x (All-tail P y xs h) is

module _ {H : Type 0} (owns : Owning H) (most : ℕ) (h : H) where
  abbrev Own : Value → Type 0
  Own = OwnValue owns h

  abbrev Answer : Result Value ErrorKind → Type 0
  Answer = OwnAnswer owns most h

  -- ---- operators give numbers, texts and truth values

  own_number : (r : Result ℤ ErrorKind) → Answer (number_or_error r)
  own_number (Ok n) = tt
  own_number (Err e) = tt

  own_joined : (a b : List ℕ) → Answer (joined a b)
  own_joined a b = by (text_fits (a ++ b))
    where
      by : (r : Bool) → Answer (if r then Ok (value.Text (a ++ b)) else Err error.TextTooLong)
      by true = tt
      by false = tt

  own_both : (a b : Option (List ℕ)) → Answer (both a b)
  own_both (Some a) (Some b) = own_joined a b
  own_both (Some a) None = tt
  own_both None b = tt

  own_concatenation : (a b : Value) → Answer (concatenation a b)
  unfolding concatenation
  own_concatenation a b = by (is_text a || is_text b)
    where
      by : (r : Bool) → Answer (if r then both (join_text a) (join_text b) else Err (error.OperandsDoNotFit operator.Plus))
      by true = own_both (join_text a) (join_text b)
      by false = tt

  own_arithmetic : (op : Operator) (f : ℤ → ℤ → Result ℤ ErrorKind) (a b : Value) → Answer (arithmetic op f a b)
  unfolding arithmetic
  own_arithmetic op f (value.Num a) (value.Num b) = own_number (f a b)
  own_arithmetic op f _ _ = tt

  own_addition : (a b : Value) → Answer (addition a b)
  unfolding addition
  own_addition (value.Num a) (value.Num b) = own_number (sum a b)
  own_addition a b = own_concatenation a b

  own_comparison : (op : Operator) (f : ℤ → ℤ → Bool) (g : List ℕ → List ℕ → Bool) (a b : Value) → Answer (comparison op f g a b)
  unfolding comparison
  own_comparison op f g (value.Num a) (value.Num b) = tt
  own_comparison op f g (value.Text a) (value.Text b) = tt
  own_comparison op f g _ _ = tt

  pub own_binary : (op : Binary) (a b : Value) → Answer (binary_of op a b)
  unfolding binary_of
  own_binary binary.Add a b = own_addition a b
  own_binary binary.Sub a b = own_arithmetic operator.Minus difference a b
  own_binary binary.Mul a b = own_arithmetic operator.Times product a b
  own_binary binary.Div a b = own_arithmetic operator.Over quotient a b
  own_binary binary.Rem a b = own_arithmetic operator.Remainder remainder a b
  own_binary binary.Less a b = own_comparison operator.Less int_lt comes_before a b
  own_binary binary.LessEqual a b = own_comparison operator.LessEqual int_le (λ s t. not (comes_before t s)) a b
  own_binary binary.Greater a b = own_comparison operator.Greater (λ m n. int_lt n m) (λ s t. comes_before t s) a b
  own_binary binary.GreaterEqual a b = own_comparison operator.GreaterEqual (λ m n. int_le n m) (λ s t. not (comes_before s t)) a b
  own_binary binary.Same a b = tt
  own_binary binary.Different a b = tt

  own_negation : (v : Value) → Answer (negation v)
  unfolding negation
  own_negation (value.Num n) = own_number (within (neg_ℤ n))
  own_negation _ = tt

  own_itself : (v : Value) → Answer (itself v)
  unfolding itself
  own_itself (value.Num n) = tt
  own_itself _ = tt

  pub own_unary : (op : Unary) (v : Value) → Answer (unary_of op v)
  unfolding unary_of
  own_unary unary.Not v = tt
  own_unary unary.Minus v = own_negation v
  own_unary unary.Plus v = own_itself v
  own_unary unary.Typeof v = tt

  pub own_stepped : (kind : StepKind) (v : Value) → Answer (stepped kind v)
  unfolding stepped
  own_stepped kind (value.Num n) = own_binary (step_binary kind) (value.Num n) (value.Num (pos 1))
  own_stepped kind _ = tt

  pub stepped_lawful : (store : List Cell) (kind : StepKind) (v : Value) → LawfulAnswer store (stepped kind v)
  unfolding stepped
  stepped_lawful store kind (value.Num n) = binary_lawful store (step_binary kind) (value.Num n) (value.Num (pos 1))
  stepped_lawful store kind _ = tt

  -- ---- reading

  own_undefined_or : (o : Option Value) → ((v : Value) → o ≡ Some v → Own v) → Own (or_undefined o)
  own_undefined_or (Some v) k = k v refl
  own_undefined_or None k = tt

  own_item : (items : List Value) (n : ℤ) → All Own items → Own (or_undefined (item_at items n))
  own_item items (pos n) k = own_undefined_or (slice_get items n) (λ v is. all_at Own items n v k is)
  own_item items (negsuc n) k = tt

  own_array : (items : List Value) (key : Value) → All Own items → Answer (array_property items key)
  unfolding array_property
  own_array items (value.Num n) k = own_item items n k
  own_array items (value.Text name) k = by (is_same name (codes "length"))
    where
      by : (b : Bool) → Answer (if b then Ok (value.Num (pos (length items))) else no_such (value.Text name))
      by true = tt
      by false = tt
  own_array items _ k = tt

  own_value_at : (ps : List Property) (o : Option ℕ) → All (λ p. Own p.value) ps → Own (or_undefined (value_at ps o))
  own_value_at ps None k = tt
  own_value_at ps (Some at) k = by (slice_get ps at) refl
    where
      by : (o : Option Property) → slice_get ps at ≡ o → Own (or_undefined (option_map (λ p. p.value) o))
      by None is = tt
      by (Some p) is = all_at (λ p. Own p.value) ps at p k is

  own_object : (ps : List Property) (key : Value) → All (λ p. Own p.value) ps → Answer (object_property ps key)
  unfolding object_property
  own_object ps key k = by (name_of key)
    where
      by : (r : Result (List ℕ) ErrorKind) → Answer (named_value ps r)
      by (Ok name) = own_value_at ps (place_of name ps) k
      by (Err e) = tt

  own_cell : (store : List Cell) (at : ℕ) (key : Value) → All (OwnCell owns h) store → Answer (cell_property (slice_get store at) key)
  own_cell store at key k = by (slice_get store at) refl
    where
      by : (o : Option Cell) → slice_get store at ≡ o → Answer (cell_property o key)
      by (Some (cell.Arr items)) is = own_array items key (all_at (OwnCell owns h) store at (cell.Arr items) k is)
      by (Some (cell.Obj ps)) is = own_object ps key (all_at (OwnCell owns h) store at (cell.Obj ps) k is)
      by _ is = tt

  own_text : (text : List ℕ) (key : Value) → Answer (text_property text key)
  unfolding text_property
  own_text text (value.Num (pos n)) = by (nat_lt n (units_of text)) (cut text n (suc n))
    where
      by : (b : Bool) (o : Option (List ℕ)) → Answer (if b then part_or_error o else Ok value.Undefined)
      by true (Some part) = tt
      by true None = tt
      by false o = tt
  own_text text (value.Num (negsuc n)) = tt
  own_text text (value.Text name) = by (is_same name (codes "length"))
    where
      by : (b : Bool) → Answer (if b then Ok (value.Num (pos (units_of text))) else no_such (value.Text name))
      by true = tt
      by false = tt
  own_text text _ = tt

  pub own_property : (store : List Cell) (base key : Value) → All (OwnCell owns h) store → Answer (property store base key)
  unfolding property
  own_property store (value.Text text) key k = own_text text key
  own_property store (value.Arr at) key k = own_cell store at key k
  own_property store (value.Obj at) key k = own_cell store at key k
  own_property store _ key k = tt
