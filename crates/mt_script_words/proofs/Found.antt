-- What is read has the form of code.
use Rattle.std.proofs.Common.{◌≡◌, ℕ, Bool, true, false, eqb, List, drop, Option, Some, None, refl, subst}
use Rattle.std.specs.Prelude.{if◌then◌else◌}
use Rattle.std.specs.Str.{all_scalars, chars, is_utf8}
use Rattle.std.proofs.lemmas.Str.{IsUtf8-from_is_utf8, scalars-chars}
use Rattle.mt_syntax.specs.Names.{is_name}
use Rattle.mt_syntax.specs.Shape.{is_assignment, is_number}
use Rattle.mt_tree.specs.declared.operators.Binary.{Binary}
use Rattle.mt_tree.specs.declared.operators.Binary.TheVariants as binary
use Rattle.mt_json.specs.Reading.{◌>>=◌, first_at}
use Rattle.mt_json.proofs.DataAt.{alone_by, data_at_gives}
use Rattle.mt_script_words.specs.Literals.{string_at, text_at}
use Rattle.mt_script_words.specs.Operators.{arithmetic, comparison, equals, operator_at, operator_from}
use Rattle.mt_script_words.specs.declared.operators.Operator.{Operator}
use Rattle.mt_script_words.specs.declared.operators.Operator.TheVariants as operator
use Rattle.mt_script_words.specs.Values.{datum_of, is_within, number_in, number_of, unsigned}
use Rattle.mt_script_words.specs.Words.{is_short, name_of, short, text_in}

-- where something is found, it is of this kind
abbrev pub Finds : {A : Type 0} → (A → Type 0) → Option A → Type 0
Finds {A} P o = (x : A) → o ≡ Some x → P x

module _ {A B : Type 0} {P : A → Type 0} {Q : B → Type 0} where
  pub then_finds : (o : Option A) (f : A → Option B) → Finds P o → ((x : A) → P x → Finds Q (f x)) → Finds Q (o >>= f)
  then_finds None f h g y e = absurd cc
  then_finds (Some x) f h g y e = g x (h x refl) y e

pub finds : {A : Type 0} (P : A → Type 0) (x : A) → P x → Finds P (Some x)
finds P x p y e = let same : x ≡ y = cc in subst P same p

pub finds_nothing : {A : Type 0} (P : A → Type 0) → Finds P None
finds_nothing P y e = absurd cc

pub finds_if : {A : Type 0} {P : A → Type 0} (b : Bool) (o p : Option A) → (b ≡ true → Finds P o) → (b ≡ false → Finds P p) → Finds P (if b then o else p)
finds_if true o p h g = h refl
finds_if false o p h g = g refl

-- ---- names and texts

pub record IsShortName (cs : List ℕ) : Type 0 where
  pub name : is_name cs ≡ true
  pub short : is_short cs ≡ true

pub record IsShortText (cs : List ℕ) : Type 0 where
  pub scalars : all_scalars cs ≡ true
  pub short : is_short cs ≡ true

short_finds : (cs : List ℕ) (P : List ℕ → Type 0) → (is_short cs ≡ true → P cs) → Finds P (short cs)
short_finds cs P h = finds_if (is_short cs) (Some cs) None (λ e. finds _ cs (h e)) (λ e. finds_nothing _)

text_found : (bytes : List ℕ) → Finds IsShortText (text_in bytes)
text_found bytes =
    finds_if (is_utf8 bytes) (short (chars bytes)) None
    (λ is. short_finds (chars bytes) IsShortText (λ k. record { scalars = scalars-chars bytes (IsUtf8-from_is_utf8 bytes is); short = k }))
    (λ e. finds_nothing _)

pub names_found : (word : List ℕ) → Finds IsShortName (name_of word)
unfolding name_of
names_found word =
    then_finds {P = IsShortText} (text_in word) _ (text_found word) (λ t k. finds_if (is_name t) (Some t) None (λ n. finds _ t (record { name = n; short = k.short })) (λ e. finds_nothing _))

pub texts_found : (bytes : List ℕ) → Finds (λ (x : List ℕ × List ℕ). IsShortText x.0) (text_at bytes)
unfolding text_at
texts_found bytes =
    then_finds {P = λ s. Unit {0}} (string_at bytes) _ (λ s e. tt)
    (λ s u. then_finds {P = IsShortText} (text_in s.0) _ (text_found s.0) (λ t h. finds _ (t, s.1) h))

-- ---- data and numbers

pub data_found : (bytes : List ℕ) → Finds (λ d. is_within d ≡ true) (datum_of bytes)
data_found bytes d e = alone_by d (data_at_gives bytes d e).0

pub numbers_found : (word : List ℕ) → Finds (λ z. is_number z ≡ true) (number_of word)
unfolding number_of
numbers_found word =
    then_finds {P = λ d. Unit {0}} (datum_of word) _ (λ d e. tt)
    (λ d u. then_finds {P = λ z. Unit {0}} (number_in d) unsigned (λ z e. tt) (λ z u. finds_if (is_number z) (Some z) None (λ e. finds _ z e) (λ e. finds_nothing _)))

-- ---- operators

-- what may stand before the `=` of an assignment
abbrev pub Assigns : Operator → Type 0
Assigns (operator.Assign op) = is_assignment op ≡ true
Assigns _ = Unit {0}

abbrev IsOperator : Operator × List ℕ → Type 0
IsOperator x = Assigns x.0

arithmetic_finds : (op : Binary) (second : ℕ) (bytes : List ℕ) → is_assignment (Some op) ≡ true → Finds IsOperator (arithmetic op second bytes)
arithmetic_finds op second bytes is = finds_if (eqb second 61) _ _ (λ e. finds _ (operator.Assign (Some op), drop 3 bytes) is) (λ e. finds _ (operator.Binary op, drop 2 bytes) tt)

comparison_finds : (strict equal : Binary) (second : ℕ) (bytes : List ℕ) → Finds IsOperator (comparison strict equal second bytes)
comparison_finds strict equal second bytes = finds_if (eqb second 61) _ _ (λ e. finds _ (operator.Binary equal, drop 3 bytes) tt) (λ e. finds _ (operator.Binary strict, drop 2 bytes) tt)

equals_finds : (second : ℕ) (bytes : List ℕ) → Finds IsOperator (equals second bytes)
equals_finds second bytes = finds_if (eqb second 61) _ _ (λ e. finds _ (operator.Binary binary.Same, drop 4 bytes) tt) (λ e. finds _ (operator.Assign None, drop 2 bytes) refl)

operator_finds : (first second : ℕ) (bytes : List ℕ) → Finds IsOperator (operator_from first second bytes)
operator_finds first second bytes =
    finds_if (eqb first 43) _ _ (λ e. arithmetic_finds binary.Add second bytes refl)
    (λ e. finds_if (eqb first 45) _ _ (λ e. arithmetic_finds binary.Sub second bytes refl)
    (λ e. finds_if (eqb first 42) _ _ (λ e. arithmetic_finds binary.Mul second bytes refl)
    (λ e. finds_if (eqb first 47) _ _ (λ e. arithmetic_finds binary.Div second bytes refl)
    (λ e. finds_if (eqb first 37) _ _ (λ e. arithmetic_finds binary.Rem second bytes refl)
    (λ e. finds_if (eqb first 60) _ _ (λ e. comparison_finds binary.Less binary.LessEqual second bytes)
    (λ e. finds_if (eqb first 62) _ _ (λ e. comparison_finds binary.Greater binary.GreaterEqual second bytes)
    (λ e. finds_if (eqb first 61) _ _ (λ e. equals_finds second bytes)
    (λ e. finds_if (eqb first 33) _ _ (λ e. finds _ (operator.Binary binary.Different, drop 4 bytes) tt)
    (λ e. finds_if (eqb first 38) _ _ (λ e. finds _ (operator.And, drop 3 bytes) tt)
    (λ e. finds_if (eqb first 124) _ _ (λ e. finds _ (operator.Or, drop 3 bytes) tt)
    (λ e. finds_if (eqb first 63) _ None (λ e. finds _ (operator.Choice, drop 2 bytes) tt) (λ e. finds_nothing _))))))))))))

pub operators_found : (bytes : List ℕ) → Finds (λ (x : Operator × List ℕ). Assigns x.0) (operator_at bytes)
unfolding operator_at
operators_found bytes =
    then_finds {P = λ p. Unit {0}} (first_at bytes) _ (λ p e. tt) (λ p u. then_finds {P = λ q. Unit {0}} (first_at p.1) _ (λ q e. tt) (λ q u. operator_finds p.0 q.0 bytes))
