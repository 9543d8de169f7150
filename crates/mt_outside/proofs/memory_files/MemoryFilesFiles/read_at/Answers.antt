use Rattle.std.proofs.Common.{◌≡◌, ◌<◌, ◌≤◌, Some, inl, inr, refl, ap, sym, ◌∙◌, length, arith, get_or, set}
use Rattle.std.specs.Str.{chars}
use Rattle.std.proofs.lemmas.List.{length-set, get_or-set_same, get_or_default}
use Rattle.mt_outside.specs.Calls.{next_count}
use Rattle.mt_outside.specs.Entries.{content_of, count_of, place_in_names}
use Rattle.mt_outside.proofs.Counts.{counts_there, counts_missing}
use Rattle.mt_outside.proofs.Named.{content-none, content-place, content-found, count-missing_later, count-none, count-set_later, count-place}
use Rattle.mt_outside.proofs.memory_files.MemoryFilesFiles.read_at.Goals as goal

pub returns-then-fails-clause-later : goal.returns-then-fails-clause-later
returns-then-fails-clause-later c = λ other.
    let ns = c.args.self.now.counts.items in
    let old = c.index_mut.result.now in
    let within : c.place_named-place.result < length ns = omega (arith, c.args.self.now.counted, c.args.self.now.counts.ok.0) in
    let was : old ≡ get_or ns c.place_named-place.result 0 = c.index_mut.ensures.value ∙ get_or_default ns c.place_named-place.result old 0 within in
    let more : get_or ns c.place_named-place.result 0 ≤ c.raise.new.count = rw (sym was) c.raise.ensures.later in
    count-set_later c.args.self.now.entries.items ns c.place_named-place.result c.raise.new.count c.args.self.now.missing other more

pub returns-then-fails-clause-cause : goal.returns-then-fails-clause-cause
returns-then-fails-clause-cause c =
    let es = c.args.self.now.entries.items in
    let ns = c.args.self.now.counts.items in
    let old = c.index_mut.result.now in
    let v = c.raise.new.count in
    let m = c.args.self.now.missing in
    let name = chars c.args.name.now in
    let place : c.place_named-place.result ≡ place_in_names name es = c.place_named-place.ensures ∙ ap (place_in_names name) c.deref.ensures.value in
    let same : length ns ≡ length es = omega (arith, c.args.self.now.counted, c.args.self.now.counts.ok.0, c.args.self.now.entries.ok.0) in
    let inside : place_in_names name es < length es = omega (arith, place, c.args.self.now.entries.ok.0) in
    let within : place_in_names name es < length ns = omega (arith, same, inside) in
    let was : old ≡ get_or ns (place_in_names name es) old = c.index_mut.ensures.value ∙ ap (λ i. get_or ns i old) place in
    let before : count_of es ns m name ≡ old =
    count-place name es ns m same inside ∙ get_or_default ns (place_in_names name es) 0 old within ∙ sym was in
    let now : count_of es (set ns (place_in_names name es) v) m name ≡ v =
    count-place name es (set ns (place_in_names name es) v) m (length-set ns (place_in_names name es) v ∙ same) inside
    ∙ get_or-set_same ns (place_in_names name es) v 0 within in
    rw (place, before, now) record { later = c.raise.ensures.later; failed = omega (arith, c.raise.ensures.next) }

pub returns-else-fails-clause-bytes : goal.returns-else-fails-clause-bytes
returns-else-fails-clause-bytes c =
    let es = c.args.self.now.entries.items in
    let name = chars c.args.name.now in
    let entry = c.index.result.now in
    let place : c.place_named-place.result ≡ place_in_names name es = c.place_named-place.ensures ∙ ap (place_in_names name) c.deref.ensures.value in
    let inside : place_in_names name es < length es = omega (arith, place, c.args.self.now.entries.ok.0) in
    let there : entry ≡ get_or es (place_in_names name es) entry = c.index.ensures ∙ ap (λ i. get_or es i entry) place in
    let content : content_of es name ≡ Some entry.bytes = content-place name es entry inside ∙ ap (λ e. Some e.bytes) (sym there) in
    rw (content, sym c.items.ensures) c.read_part.ensures.part

pub returns-else-fails-clause-missing : goal.returns-else-fails-clause-missing
returns-else-fails-clause-missing c = λ missing.
    let es = c.args.self.now.entries.items in
    let name = chars c.args.name.now in
    let entry = c.index.result.now in
    let place : c.place_named-place.result ≡ place_in_names name es = c.place_named-place.ensures ∙ ap (place_in_names name) c.deref.ensures.value in
    let inside : place_in_names name es < length es = omega (arith, place, c.args.self.now.entries.ok.0) in
    let content = content-place name es entry inside in
    absurd (cc)

pub returns-else-place-len-clause-later : goal.returns-else-place-len-clause-later
returns-else-place-len-clause-later c = λ other.
    count-missing_later c.args.self.now.entries.items c.args.self.now.counts.items _ _ other c.raise-else-place-len.ensures.later

pub returns-else-place-len-clause-cause : goal.returns-else-place-len-clause-cause
returns-else-place-len-clause-cause c =
    let es = c.args.self.now.entries.items in
    let ns = c.args.self.now.counts.items in
    let name = chars c.args.name.now in
    let place : c.place_named-place.result ≡ place_in_names name es = c.place_named-place.ensures ∙ ap (place_in_names name) c.deref.ensures.value in
    let past : length es ≤ place_in_names name es = omega (arith, place, c.args.self.now.entries.ok.0) in
    rw (count-none name es ns c.args.self.now.missing past, count-none name es ns c.raise-else-place-len.new.count past)
    record { later = c.raise-else-place-len.ensures.later; failed = omega (arith, c.raise-else-place-len.ensures.next) }

pub returns-then-fails-clause-counted : goal.returns-then-fails-clause-counted
returns-then-fails-clause-counted c = λ other.
    let es = c.args.self.now.entries.items in
    let ns = c.args.self.now.counts.items in
    let old = c.index_mut.result.now in
    let m = c.args.self.now.missing in
    let name = chars c.args.name.now in
    let place : c.place_named-place.result ≡ place_in_names name es = c.place_named-place.ensures ∙ ap (place_in_names name) c.deref.ensures.value in
    let same : length ns ≡ length es = omega (arith, c.args.self.now.counted, c.args.self.now.counts.ok.0, c.args.self.now.entries.ok.0) in
    let inside : place_in_names name es < length es = omega (arith, place, c.args.self.now.entries.ok.0) in
    let within : place_in_names name es < length ns = omega (arith, same, inside) in
    let was : old ≡ get_or ns (place_in_names name es) old = c.index_mut.ensures.value ∙ ap (λ i. get_or ns i old) place in
    let before : count_of es ns m name ≡ old =
    count-place name es ns m same inside ∙ get_or_default ns (place_in_names name es) 0 old within ∙ sym was in
    let told = content-found name es inside in
    rw place (counts_there name other es ns c.raise.new.count m told.0 same inside told.1 (c.raise.ensures.next ∙ ap next_count (sym before)))

pub returns-else-fails-clause-full : goal.returns-else-fails-clause-full
returns-else-fails-clause-full c =
    let es = c.args.self.now.entries.items in
    let name = chars c.args.name.now in
    let entry = c.index.result.now in
    let place : c.place_named-place.result ≡ place_in_names name es = c.place_named-place.ensures ∙ ap (place_in_names name) c.deref.ensures.value in
    let inside : place_in_names name es < length es = omega (arith, place, c.args.self.now.entries.ok.0) in
    let there : entry ≡ get_or es (place_in_names name es) entry = c.index.ensures ∙ ap (λ i. get_or es i entry) place in
    let content : content_of es name ≡ Some entry.bytes = content-place name es entry inside ∙ ap (λ e. Some e.bytes) (sym there) in
    rw (content, sym c.items.ensures) c.read_part.ensures.full

pub returns-else-fails-clause-exact : goal.returns-else-fails-clause-exact
returns-else-fails-clause-exact c =
    let es = c.args.self.now.entries.items in
    let name = chars c.args.name.now in
    let place : c.place_named-place.result ≡ place_in_names name es = c.place_named-place.ensures ∙ ap (place_in_names name) c.deref.ensures.value in
    let inside : place_in_names name es < length es = omega (arith, place, c.args.self.now.entries.ok.0) in
    let told = content-found name es inside in (
      λ e. absurd (cc),
      λ cause. elim cause [ inl fails ↦ absurd (let t = c.if-fails.ensures.listed.1 fails in cc) | inr missing ↦ absurd (let t = told.1 in cc) ],
    )

pub returns-else-place-len-clause-counted : goal.returns-else-place-len-clause-counted
returns-else-place-len-clause-counted c = λ other.
    let es = c.args.self.now.entries.items in
    let ns = c.args.self.now.counts.items in
    let name = chars c.args.name.now in
    let place : c.place_named-place.result ≡ place_in_names name es = c.place_named-place.ensures ∙ ap (place_in_names name) c.deref.ensures.value in
    let same : length ns ≡ length es = omega (arith, c.args.self.now.counted, c.args.self.now.counts.ok.0, c.args.self.now.entries.ok.0) in
    let past : length es ≤ place_in_names name es = omega (arith, place, c.args.self.now.entries.ok.0) in
    counts_missing name other es ns c.args.self.now.missing c.raise-else-place-len.new.count same past c.raise-else-place-len.ensures.next

pub returns-else-place-len-clause-exact : goal.returns-else-place-len-clause-exact
returns-else-place-len-clause-exact c =
    let es = c.args.self.now.entries.items in
    let name = chars c.args.name.now in
    let place : c.place_named-place.result ≡ place_in_names name es = c.place_named-place.ensures ∙ ap (place_in_names name) c.deref.ensures.value in
    let past : length es ≤ place_in_names name es = omega (arith, place, c.args.self.now.entries.ok.0) in
    (λ _. inr (content-none name es past), λ _. refl)
