-- Requests, by their targets.
use Rattle.std.proofs.Common.{◌≡◌, ◌≤◌, ◌<◌, ◌+◌, ◌↔◌, ℕ, Bool, true, false, ◌&&◌, ◌||◌, ◌==◌, List, ◌∷◌, ◌++◌, length, take, drop, nat_le, refl, sym, ap, ◌∙◌, subst, arith, append_assoc, if◌then◌else◌, None, Some}
use Rattle.std.proofs.lemmas.List.{length-append, length-drop, take-append-drop, append_cancel_left}
use Rattle.std.proofs.lemmas.Bool.{and_parts, and_from, leb-true}
use Rattle.std.proofs.lemmas.Bool.Decides.{nat_tests}
use Rattle.std.proofs.lemmas.Slice.Eq.{bytes_eq-Decides}
use Rattle.std.specs.List.{list_all}
use Rattle.std.specs.Str.{bytes_eq}
use Rattle.mt_small.specs.Name.{is_lower, is_name, is_target, hop}
use Rattle.mt_small.specs.Wire.{load_front, load_back, load_wire}
use Rattle.mt_small.specs.Reading.{target_in, request_in}
use Rattle.mt_small.proofs.Between.{between_is, list_all-append, list_all-weaker, same_run}

-- a lower-case letter or a slash
abbrev pub is_path_byte : ℕ → Bool
is_path_byte byte = is_lower byte || (byte == 47)

lower_path : (byte : ℕ) → is_lower byte ≡ true → is_path_byte byte ≡ true
lower_path byte lower = rw lower refl

pub path_below : (byte : ℕ) → is_path_byte byte ≡ true → byte < 128
path_below byte passes = grind (arith, nat_tests)

pub path_of_target : (target : List ℕ) → is_target target ≡ true → list_all is_path_byte target ≡ true
path_of_target target good =
    let parts = and_parts (bytes_eq (take 5 target) hop) (is_name (drop 5 target)) good in
    let front : take 5 target ≡ hop = (bytes_eq-Decides (take 5 target) hop).0 parts.0 in
    let sizes = and_parts (nat_le 1 (length (drop 5 target))) (nat_le (length (drop 5 target)) 32 && list_all is_lower (drop 5 target)) parts.1 in
    let letters = and_parts (nat_le (length (drop 5 target)) 32) (list_all is_lower (drop 5 target)) sizes.1 in
    subst (λ (l : List ℕ). list_all is_path_byte l ≡ true) (take-append-drop 5 target)
    (list_all-append is_path_byte (take 5 target) (drop 5 target)
    (subst (λ (l : List ℕ). list_all is_path_byte l ≡ true) (sym front) refl)
    (list_all-weaker is_lower is_path_byte lower_path (drop 5 target) letters.1))

pub target_size : (target : List ℕ) → is_target target ≡ true → length target ≤ 37
target_size target good =
    let parts = and_parts (bytes_eq (take 5 target) hop) (is_name (drop 5 target)) good in
    let sizes = and_parts (nat_le 1 (length (drop 5 target))) (nat_le (length (drop 5 target)) 32 && list_all is_lower (drop 5 target)) parts.1 in
    let letters = and_parts (nat_le (length (drop 5 target)) 32) (list_all is_lower (drop 5 target)) sizes.1 in
    let most : length (drop 5 target) ≤ 32 = leb-true (length (drop 5 target)) 32 letters.0 in
    omega (arith, length-drop 5 target)

pub if_some : {X : Type 0} (b : Bool) (x y : X) → (if b then Some x else None) ≡ Some y → (b ≡ true) × (x ≡ y)
if_some true x y same = (refl, cc)
if_some false x y same = absurd (cc)

target_in_load : (target : List ℕ) → target_in (load_wire target) ≡ target
target_in_load target = between_is load_front target load_back (length load_front) (length load_back) refl refl

pub request_in_is : (bytes target : List ℕ) → (request_in bytes ≡ Some target) ↔ ((is_target target ≡ true) × (bytes ≡ load_wire target))
request_in_is bytes target = (read, written) where
  read : request_in bytes ≡ Some target → (is_target target ≡ true) × (bytes ≡ load_wire target)
  read said =
      let found = target_in bytes in
      let chosen = if_some (is_target found && bytes_eq bytes (load_wire found)) found target said in
      let parts = and_parts (is_target found) (bytes_eq bytes (load_wire found)) chosen.0 in
      let same : bytes ≡ load_wire found = (bytes_eq-Decides bytes (load_wire found)).0 parts.1 in
      (ap is_target (sym chosen.1) ∙ parts.0, same ∙ ap load_wire chosen.1)

  written : (is_target target ≡ true) × (bytes ≡ load_wire target) → request_in bytes ≡ Some target
  written is =
      let found : target_in bytes ≡ target = ap target_in is.1 ∙ target_in_load target in
      let same : bytes_eq bytes (load_wire target) ≡ true = (bytes_eq-Decides bytes (load_wire target)).1 is.1 in
      rw (found, and_from (is_target target) (bytes_eq bytes (load_wire target)) is.0 same) refl

-- a request in front of more bytes, as a run up to a space
load_starts : (more : List ℕ) → load_back ++ more ≡ 32 ∷ (drop 1 load_back ++ more)
unfolding load_back
load_starts more = refl

load_parts : (target more : List ℕ) → load_wire target ++ more ≡ load_front ++ (target ++ 32 ∷ (drop 1 load_back ++ more))
load_parts target more =
    append_assoc (load_front ++ target) load_back more
    ∙ append_assoc load_front target (load_back ++ more)
    ∙ ap (λ (l : List ℕ). load_front ++ (target ++ l)) (load_starts more)

pub same_load : (a b us vs : List ℕ) → is_target a ≡ true → is_target b ≡ true → load_wire a ++ us ≡ load_wire b ++ vs → (a ≡ b) × (us ≡ vs)
same_load a b us vs first second same =
    let behind = append_cancel_left load_front (a ++ 32 ∷ (drop 1 load_back ++ us)) (b ++ 32 ∷ (drop 1 load_back ++ vs)) (sym (load_parts a us) ∙ same ∙ load_parts b vs) in
    let parts = same_run is_path_byte 32 refl a b (drop 1 load_back ++ us) (drop 1 load_back ++ vs) (path_of_target a first) (path_of_target b second) behind in
    (parts.0, append_cancel_left (drop 1 load_back) us vs parts.1)

load_back_size : length load_back ≡ 49
unfolding load_back
load_back_size = refl

pub load_size : (target : List ℕ) → length (load_wire target) ≡ length target + 53
load_size target = simp length-append (omega (arith, load_back_size))
