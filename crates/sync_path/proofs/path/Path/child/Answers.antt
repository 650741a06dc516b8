use Rattle.std.proofs.Common.{◌≡◌, ◌∙◌, ◌++◌, ◌∷◌, [], true, length, string_bytes, sym, ap, ap₂}
use Rattle.std.proofs.lemmas.Bool.{and_from}
use Rattle.sync_path.specs.Buffer.{names_in}
use Rattle.sync_path.specs.Name.{is_name}
use Rattle.sync_path.specs.Path.{may_follow, has_room, place_behind}
use Rattle.sync_path.proofs.Ends.{length-kept-le, child_from_parts}
use Rattle.sync_path.proofs.path.Path.child.Goals as goal

pub buffer_with-requires : goal.buffer_with-requires
buffer_with-requires c = rw c.as_str.ensures.value (length-kept-le _ c.self.invariant)

follows : (c : goal.In-Ok) → may_follow (names_in (string_bytes c.self.inside.buffer)) c.as_str-name.result.now ≡ true
follows c =
    let name : is_name c.as_str-name.result.now ≡ true = ap is_name c.as_str-name.ensures.value ∙ c.as_str-name.ensures.name in
    let room : has_room (length c.args.self.now) (place_behind c.args.self.now) (length c.as_str-name.result.now) ≡ true =
    ap₂ (λ d p. has_room d p (length c.as_str-name.result.now)) (sym c.depth.ensures.value) (sym c.next_place-place.ensures)
    ∙ sym c.has_room.ensures ∙ c.if-not-has_room.false in
    and_from _ _ name (ap (λ ns. has_room (length ns) (place_behind ns) (length c.as_str-name.result.now)) c.self.view_is ∙ room)

pub invariant_of-result : goal.invariant_of-result
invariant_of-result c =
    (child_from_parts _ _ _ c.self.invariant (follows c) (c.in-Ok.ensures ∙ ap (λ bs. bs ++ c.as_str-name.result.now ++ 0 ∷ []) c.as_str.ensures.value)).0

pub returns-in-Ok-clause-value : goal.returns-in-Ok-clause-value
returns-in-Ok-clause-value c =
    (child_from_parts _ _ _ c.self.invariant (follows c) (c.in-Ok.ensures ∙ ap (λ bs. bs ++ c.as_str-name.result.now ++ 0 ∷ []) c.as_str.ensures.value)).1
    ∙ ap₂ (λ ns n. ns ++ n ∷ []) c.self.view_is c.as_str-name.ensures.value
