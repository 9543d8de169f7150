-- A name is no keyword, and neither is a number.
use Rattle.std.proofs.Common.{◌≡◌, ℕ, zero, suc, ◌<◌, ◌≤◌, Bool, true, false, ◌||◌, List, [], ◌∷◌, length, get_or, eqb, refl, ap, ◌∙◌, arith}
use Rattle.std.specs.Prelude.{codes}
use Rattle.std.specs.List.{list_any}
use Rattle.std.specs.Str.{IsUtf8, bytes_eq}
use lib.Utf8.{encodes}
use Rattle.std.proofs.lemmas.Bool.{ne_eqb, not-true}
use Rattle.std.proofs.lemmas.Str.{chars-encodes}
use Rattle.mt_syntax.specs.Names.{is_name}
use Rattle.mt_script_words.specs.Keywords.{keyword_of, leader_of}
use Rattle.mt_script_words.specs.declared.keywords.Keyword.TheVariants as keyword
use Rattle.mt_script_words.specs.declared.keywords.Leader.{Leader}
use Rattle.mt_script_words.specs.declared.keywords.Leader.TheVariants as leader
use Rattle.mt_script_words.proofs.NameBytes.{known_word}
use Rattle.mt_script_words.proofs.WordTexts.{named}
use Rattle.mt_tree.specs.Words.{is_reserved, reserved_words}

or_false : (a b : Bool) → (a || b) ≡ false → (a ≡ false) × (b ≡ false)
or_false true b h = absurd cc
or_false false b h = (refl, h)

none_at : (f : List ℕ → Bool) (words : List (List ℕ)) (i : ℕ) → i < length words → list_any f words ≡ false → f (get_or words i []) ≡ false
none_at f [] i lt h = absurd (omega arith)
none_at f (w ∷ words) zero lt h = (or_false (f w) (list_any f words) h).0
none_at f (w ∷ words) (suc i) lt h = none_at f words i (omega arith) (or_false (f w) (list_any f words) h).1

-- what is known of a word that begins neither a statement nor a function
abbrev pub is_plain_leader : Leader → Bool
is_plain_leader leader.Function = false
is_plain_leader leader.Typeof = false
is_plain_leader _ = true

pub record IsPlainWord (word : List ℕ) : Type 0 where
  pub no_keyword : keyword_of word ≡ keyword.Other
  pub no_leader : is_plain_leader (leader_of word) ≡ true
  pub no_else : bytes_eq (codes "else") word ≡ false
  pub no_var : bytes_eq (codes "var") word ≡ false

pub no_word : IsPlainWord []
unfolding keyword_of leader_of
no_word = record { no_keyword = refl; no_leader = refl; no_else = refl; no_var = refl }

pub true_word : IsPlainWord (codes "true")
unfolding keyword_of leader_of
true_word = record { no_keyword = refl; no_leader = refl; no_else = refl; no_var = refl }

pub false_word : IsPlainWord (codes "false")
unfolding keyword_of leader_of
false_word = record { no_keyword = refl; no_leader = refl; no_else = refl; no_var = refl }

pub null_word : IsPlainWord (codes "null")
unfolding keyword_of leader_of
null_word = record { no_keyword = refl; no_leader = refl; no_else = refl; no_var = refl }

pub undefined_word : IsPlainWord (codes "undefined")
unfolding keyword_of leader_of
undefined_word = record { no_keyword = refl; no_leader = refl; no_else = refl; no_var = refl }

-- ---- names

module _ (cs : List ℕ) (name : is_name cs ≡ true) where
  unreserved : list_any (λ known. bytes_eq known (encodes cs)) reserved_words ≡ false
  unreserved =
      let known = named cs name in
      let utf8 : IsUtf8 (encodes cs) = (cs, (known.scalars, refl)) in
      known_word reserved_words (encodes cs) utf8 refl ∙ ap (λ s. list_any (λ w. bytes_eq w s) reserved_words) (chars-encodes cs known.scalars) ∙ not-true (is_reserved cs) known.free

  other_word : (i : ℕ) → i < 39 → bytes_eq (get_or reserved_words i []) (encodes cs) ≡ false
  other_word i lt = none_at (λ w. bytes_eq w (encodes cs)) reserved_words i lt unreserved

  keyword_of_name : keyword_of (encodes cs) ≡ keyword.Other
  unfolding keyword_of
  keyword_of_name =
      let a : bytes_eq (codes "var") (encodes cs) ≡ false = other_word 34 (omega arith) in
      let b : bytes_eq (codes "let") (encodes cs) ≡ false = other_word 21 (omega arith) in
      let c : bytes_eq (codes "const") (encodes cs) ≡ false = other_word 4 (omega arith) in
      let d : bytes_eq (codes "function") (encodes cs) ≡ false = other_word 16 (omega arith) in
      let e : bytes_eq (codes "if") (encodes cs) ≡ false = other_word 17 (omega arith) in
      let f : bytes_eq (codes "while") (encodes cs) ≡ false = other_word 36 (omega arith) in
      let g : bytes_eq (codes "for") (encodes cs) ≡ false = other_word 15 (omega arith) in
      let h : bytes_eq (codes "return") (encodes cs) ≡ false = other_word 24 (omega arith) in
      let i : bytes_eq (codes "throw") (encodes cs) ≡ false = other_word 29 (omega arith) in
      let j : bytes_eq (codes "break") (encodes cs) ≡ false = other_word 0 (omega arith) in
      let k : bytes_eq (codes "continue") (encodes cs) ≡ false = other_word 5 (omega arith) in
      let l : bytes_eq (codes "try") (encodes cs) ≡ false = other_word 31 (omega arith) in
      rw (a, b, c, d, e, f, g, h, i, j, k, l) refl

  pub leader_of_name : leader_of (encodes cs) ≡ leader.Other
  unfolding leader_of
  leader_of_name =
      let a : bytes_eq (codes "true") (encodes cs) ≡ false = other_word 30 (omega arith) in
      let b : bytes_eq (codes "false") (encodes cs) ≡ false = other_word 13 (omega arith) in
      let c : bytes_eq (codes "null") (encodes cs) ≡ false = other_word 23 (omega arith) in
      let d : bytes_eq (codes "undefined") (encodes cs) ≡ false = other_word 33 (omega arith) in
      let e : bytes_eq (codes "function") (encodes cs) ≡ false = other_word 16 (omega arith) in
      let f : bytes_eq (codes "typeof") (encodes cs) ≡ false = other_word 32 (omega arith) in
      rw (a, b, c, d, e, f) refl

  pub name_word : IsPlainWord (encodes cs)
  name_word = record { no_keyword = keyword_of_name; no_leader = ap is_plain_leader leader_of_name; no_else = other_word 10 (omega arith); no_var = other_word 34 (omega arith) }

-- ---- numbers

abbrev pub IsDigitByte : ℕ → Type 0
IsDigitByte b = (48 ≤ b) × (b < 58)

module _ (b : ℕ) (bytes : List ℕ) (digit : IsDigitByte b) where
  differs : (c : ℕ) → 58 ≤ c → eqb c b ≡ false
  differs c high = ne_eqb c b (λ e. omega (arith, digit.1))

  pub number_word : IsPlainWord (b ∷ bytes)
  unfolding keyword_of leader_of
  number_word = record {
    no_keyword = rw (differs 118 (omega arith), differs 108 (omega arith), differs 99 (omega arith), differs 102 (omega arith), differs 105 (omega arith), differs 119 (omega arith), differs 114 (omega arith), differs 116 (omega arith), differs 98 (omega arith)) refl;
    no_leader = rw (differs 116 (omega arith), differs 102 (omega arith), differs 110 (omega arith), differs 117 (omega arith)) refl;
    no_else = rw (differs 101 (omega arith)) refl;
    no_var = rw (differs 118 (omega arith)) refl;
  }
