use Rattle.std.proofs.Common.{sym, ◌∙◌, refl}
use Rattle.std.specs.Cow.{cow_slice_items}
use Rattle.store_documents.proofs.RowLemmas.{WritesAs, other_body, own_key_told, old_key_told, no_key_told, kept_of, untrue_so}
use Rattle.store_documents.proofs.row.key_against.Goals as goal

pub key_before-requires : goal.key_before-requires
key_before-requires c =
    let a = c.requires in
    (a.0, kept_of a.0 a.2 a.3.0, sym (sym c.as_slice.ensures.value ∙ c.is_same.ensures.0 c.if-not-is_same.false) ∙ a.3.2)

pub returns-then-not-is_same : goal.returns-then-not-is_same
returns-then-not-is_same c coll name utf8 =
    let a = c.requires in
    let w : WritesAs a.0 c.args.written.key.items (cow_slice_items c.args.written.body) = record { read = a.2; accepted = a.3.0; key_is = a.3.1; body_is = a.3.2 } in
    other_body coll c.args.key.now c.args.body.now name utf8 a.0 c.args.written.key.items (cow_slice_items c.args.written.body) w a.1 (untrue_so c.is_same.result c.if-not-is_same.true (λ e. c.is_same.ensures.1 (c.as_slice.ensures.value ∙ e)))

pub returns-then-is_own : goal.returns-then-is_own
returns-then-is_own c coll name utf8 =
    let a = c.requires in
    let w : WritesAs a.0 c.args.written.key.items (cow_slice_items c.args.written.body) = record { read = a.2; accepted = a.3.0; key_is = a.3.1; body_is = a.3.2 } in
    own_key_told coll c.args.key.now c.args.body.now name utf8 a.0 c.args.written.key.items (cow_slice_items c.args.written.body) w a.1 (sym c.as_slice.ensures.value ∙ c.is_same.ensures.0 c.if-not-is_same.false) (sym c.as_slice-2.ensures.value ∙ c.is_same-is_own.ensures.0 c.if-is_own.true)

pub returns-then-is_old : goal.returns-then-is_old
returns-then-is_old c coll name utf8 =
    let a = c.requires in
    let w : WritesAs a.0 c.args.written.key.items (cow_slice_items c.args.written.body) = record { read = a.2; accepted = a.3.0; key_is = a.3.1; body_is = a.3.2 } in
    let same = sym c.as_slice.ensures.value ∙ c.is_same.ensures.0 c.if-not-is_same.false in
    let old = c.in_ok-before.ensures a.0 (kept_of a.0 a.2 a.3.0) (sym same ∙ a.3.2) in
    old_key_told coll c.args.key.now c.args.body.now name utf8 a.0 c.args.written.key.items (cow_slice_items c.args.written.body) w a.1 c.args.written.key refl same (untrue_so c.is_same-is_own.result c.if-is_own.false (λ e. c.is_same-is_own.ensures.1 (c.as_slice-2.ensures.value ∙ e)))
    (sym (c.is_same-is_old.ensures.0 c.if-is_old.true) ∙ c.as_slice-3.ensures.value ∙ old)

pub returns-else-is_old : goal.returns-else-is_old
returns-else-is_old c coll name utf8 =
    let a = c.requires in
    let w : WritesAs a.0 c.args.written.key.items (cow_slice_items c.args.written.body) = record { read = a.2; accepted = a.3.0; key_is = a.3.1; body_is = a.3.2 } in
    let same = sym c.as_slice.ensures.value ∙ c.is_same.ensures.0 c.if-not-is_same.false in
    let old = c.in_ok-before.ensures a.0 (kept_of a.0 a.2 a.3.0) (sym same ∙ a.3.2) in
    no_key_told coll c.args.key.now c.args.body.now name utf8 a.0 c.args.written.key.items (cow_slice_items c.args.written.body) w a.1 (untrue_so c.is_same-is_own.result c.if-is_own.false (λ e. c.is_same-is_own.ensures.1 (c.as_slice-2.ensures.value ∙ e)))
    (untrue_so c.is_same-is_old.result c.if-is_old.false (λ e. c.is_same-is_old.ensures.1 (c.as_slice-3.ensures.value ∙ old ∙ sym e)))
