-- Reading code is a function of the bytes: what it finds is code within the limits that has this text, and such code is found.
use Rattle.std.proofs.Common.{◌≡◌, ℕ, Bool, true, false, ◌&&◌, List, [], ◌∷◌, map, Option, Some, None, refl, sym, ap, ◌∙◌, subst}
use Rattle.std.specs.Prelude.{nat_le, if◌then◌else◌}
use Rattle.std.specs.Str.{bytes_eq}
use Rattle.std.proofs.lemmas.Bool.{and_from, and_parts, le-leb, leb-true}
use Rattle.std.proofs.lemmas.Slice.Eq.{bytes_eq-Decides}
use Rattle.mt_tree.specs.declared.data.Data.{Data}
use Rattle.mt_tree.specs.Limits.{depth_limit, text_limit}
use Rattle.mt_syntax.specs.CodeText.{code_text}
use Rattle.mt_syntax.specs.Codes.{IsCode, is_filled, is_plain, stands_nowhere}
use Rattle.mt_syntax.specs.Depth.{depth_of}
use Rattle.mt_syntax.specs.Fold.{on_stmt}
use Rattle.mt_syntax.specs.Numbering.{values_of}
use Rattle.mt_syntax.specs.Shape.{is_shaped}
use Rattle.mt_syntax.specs.Texts.{longest_in}
use Rattle.mt_syntax.specs.declared.tree.Stmt.{Stmt}
use Rattle.mt_stage_placement.specs.Placement.{misplaced_jumps}
use Rattle.mt_stage_declared.specs.Twice.{twice_in_client}
use Rattle.mt_stage.specs.CodeLimits.{IsCodeWithinLimits}
use Rattle.mt_json.specs.DataAt.{are_within}
use Rattle.mt_json.specs.Reading.{◌>>=◌}
use Rattle.mt_json.proofs.DataAt.{are_within_by, within_are}
use Rattle.mt_script_words.specs.Outcome.{Refuses}
use Rattle.mt_script_words.specs.declared.refusal.CodeRefusal.{CodeRefusal}
use Rattle.mt_script_words.specs.declared.refusal.CodeRefusal.TheVariants as refusal
use Rattle.mt_script_tree.specs.Reading.{stmts_at}
use Rattle.mt_script_read.specs.CodeAt.{code_at, is_code, is_code_within_limits, is_empty, spelled_by}
use Rattle.mt_script_read.specs.Reads.{Reads}
use Rattle.mt_script_read.specs.Walking.{all_walks, walking}
use Rattle.mt_script_read.proofs.Accepted.{found_is_not_too_deep, walk_of}
use Rattle.mt_script_read.proofs.Exact.{found_is}

-- ---- the limits, as a test

empty : {A : Type 0} (xs : List A) → is_empty xs ≡ true → xs ≡ []
empty [] e = refl
empty (x ∷ xs) e = absurd cc

code_is : (body : List Stmt) → IsCode body → is_code body ≡ true
code_is body c = and_from (is_shaped body) _ c.shaped (and_from (is_plain body) _ c.plain (and_from (is_filled body) _ c.filled c.nowhere))

is_code_by : (body : List Stmt) → is_code body ≡ true → IsCode body
is_code_by body h =
    let all = and_parts (is_shaped body) (is_plain body && (is_filled body && stands_nowhere body)) h in
    let rest = and_parts (is_plain body) (is_filled body && stands_nowhere body) all.1 in
    let last = and_parts (is_filled body) (stands_nowhere body) rest.1 in
    record { shaped = all.0; plain = rest.0; filled = last.0; nowhere = last.1 }

pub code_is_within : (body : List Stmt) → IsCodeWithinLimits body → is_code_within_limits body ≡ true
code_is_within body w =
    and_from (is_code body) _ (code_is body w.code)
    (and_from (nat_le (depth_of body) depth_limit) _ (le-leb _ _ w.depth)
    (and_from (nat_le (longest_in body) text_limit) _ (le-leb _ _ w.texts)
    (and_from (are_within (values_of body)) _ (are_within_by (values_of body) w.values)
    (and_from (is_empty (misplaced_jumps body)) _ (ap is_empty w.jumps) (ap is_empty w.names)))))

pub within_of_code : (body : List Stmt) → is_code_within_limits body ≡ true → IsCodeWithinLimits body
within_of_code body h =
    let deep : Bool = nat_le (depth_of body) depth_limit in
    let short : Bool = nat_le (longest_in body) text_limit in
    let small : Bool = are_within (values_of body) in
    let jumps : Bool = is_empty (misplaced_jumps body) in
    let names : Bool = is_empty (twice_in_client body) in
    let a = and_parts (is_code body) (deep && (short && (small && (jumps && names)))) h in
    let b = and_parts deep (short && (small && (jumps && names))) a.1 in
    let c = and_parts short (small && (jumps && names)) b.1 in
    let d = and_parts small (jumps && names) c.1 in
    let e = and_parts jumps names d.1 in
    record {
      code = is_code_by body a.0;
      depth = leb-true _ _ b.0;
      texts = leb-true _ _ c.0;
      values = within_are (values_of body) d.0;
      jumps = empty (misplaced_jumps body) e.0;
      names = empty (twice_in_client body) e.1;
    }

-- ---- the function

pub read_is : (bytes : List ℕ) (body : List Stmt) → Reads bytes body → code_at bytes ≡ Some body
unfolding code_at
read_is bytes body r = rw (found_is bytes body r.within r.text, code_is_within body r.within, (bytes_eq-Decides (code_text body) bytes).1 r.text) refl

spelled_reads : (bytes : List ℕ) (found body : List Stmt) → spelled_by bytes found ≡ Some body → Reads bytes body
spelled_reads bytes found body = by (is_code_within_limits found && bytes_eq (code_text found) bytes) refl
  where
    by : (b : Bool) → (is_code_within_limits found && bytes_eq (code_text found) bytes) ≡ b → (if b then Some found else None) ≡ Some body → Reads bytes body
    by false is e = absurd cc
    by true is e =
        let parts = and_parts (is_code_within_limits found) (bytes_eq (code_text found) bytes) is in
        let same : found ≡ body = cc in
        subst (Reads bytes) same (record { within = within_of_code found parts.0; text = (bytes_eq-Decides (code_text found) bytes).0 parts.1 })

pub text_of_code : (bytes : List ℕ) (body : List Stmt) → code_at bytes ≡ Some body → Reads bytes body
unfolding code_at
text_of_code bytes body = by (stmts_at depth_limit bytes)
  where
    by : (o : Option (List Stmt)) → (o >>= spelled_by bytes) ≡ Some body → Reads bytes body
    by None e = absurd cc
    by (Some found) e = spelled_reads bytes found body e

pub code_of_text : (body : List Stmt) → IsCodeWithinLimits body → code_at (code_text body) ≡ Some body
code_of_text body w = read_is (code_text body) body (record { within = w; text = refl })

pub no_code : (bytes : List ℕ) → code_at bytes ≡ None → (body : List Stmt) → Reads bytes body → ⊥
no_code bytes none body r = let e : None ≡ Some body = sym none ∙ read_is bytes body r in cc

pub none_is : (bytes : List ℕ) → ((body : List Stmt) → Reads bytes body → ⊥) → code_at bytes ≡ None
none_is bytes none = by (code_at bytes) refl
  where
    by : (o : Option (List Stmt)) → code_at bytes ≡ o → o ≡ None
    by None e = refl
    by (Some body) e = absurd (none body (text_of_code bytes body e))

-- ---- what a reader answers

pub refuses_nothing : (e : CodeRefusal) (read : Option (List Stmt)) → (e ≡ refusal.NotCode → ⊥) → Refuses e read
refuses_nothing refusal.NoMemory read h = tt
refuses_nothing refusal.NotCode read h = absurd (h refl)

pub refuses_bytes : (e : CodeRefusal) (bytes : List ℕ) → Refuses e (stmts_at 60 bytes) → Refuses e (code_at bytes)
unfolding code_at
refuses_bytes refusal.NoMemory bytes h = tt
refuses_bytes refusal.NotCode bytes h = ap (λ o. o >>= spelled_by bytes) h

-- with the rows that were walked over, from where the walk began
pub refuses_deep : (e : CodeRefusal) (bytes : List ℕ) (found rows : List Stmt) (start : List Data) → stmts_at 60 bytes ≡ Some found → rows ≡ found → start ≡ []
    → Refuses e (all_walks (map (on_stmt walking) rows) 60 start) → Refuses e (code_at bytes)
refuses_deep refusal.NoMemory bytes found rows start is same empty h = tt
refuses_deep refusal.NotCode bytes found rows start is same empty h = none_is bytes (found_is_not_too_deep bytes found is (walk_of rows found start None same empty h))
