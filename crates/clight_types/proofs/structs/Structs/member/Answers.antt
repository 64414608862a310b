use Rattle.std.proofs.Common.{◌≡◌, ◌∙◌, map, ap, sym}
use Rattle.std.specs.Prelude.{slice_get}
use Rattle.c_types.specs.Types.{struct_type_of, member_of}
use Rattle.clight_types.specs.Code.HeldNames.{names_in}
use Rattle.clight_types.specs.Code.HeldStructs.{structs_of}
use Rattle.clight_types.proofs.StructLemmas.{member_is}
use Rattle.clight_types.proofs.structs.Structs.member.Goals as goal

pub returns : goal.returns
returns c =
    let self = c.args.self.now in
    let s = struct_type_of c.in-Some.found.now in
    let names = names_in c.in-Some-names_at.names.now in
    c.member_at.ensures
    ∙ ap (λ members. slice_get (map member_of members) c.place.result) c.deref-3.ensures.value
    ∙ ap (slice_get s.members) c.place.ensures
    ∙ member_is (structs_of self) c.args.number c.args.name (map names_in self.names.items) s names self.named
    (sym (c.in-Some.ensures ∙ ap (λ xs. slice_get (map struct_type_of xs) c.args.number) c.deref.ensures.value))
    (sym (c.in-Some-names_at.ensures ∙ ap (λ xs. slice_get (map names_in xs) c.args.number) c.deref-2.ensures.value))
