use Rattle.std.proofs.Common.{◌≡◌, ◌+◌, ◌++◌, length, map, drop}
use Rattle.clight_syntax.specs.Code.TypedViews.{local_of}
use Rattle.clight_source.specs.Code.Views.{local_of as local_source_of}
use Rattle.clight_typing.specs.Code.HeldFile.{source_own}
use Rattle.clight_typing.specs.Code.HeldOwn.{own_of}
use Rattle.clight_typing.specs.Code.HeldScopes.{scope_of, file_names}
use Rattle.clight_types.specs.Scopes.{visible}
use Rattle.clight_typing.specs.TypedPrograms.{typed_locals as typed_locals_lem, behind_locals, locals_taken}
use Rattle.clight_typing.proofs.Walks.{ahead}
use Rattle.clight_typing.proofs.scope.Scope.typed_locals.Given as goal

abbrev pub invariant-loop-x : goal.invariant-loop-x
invariant-loop-x l = record {
  gives : typed_locals_lem (scope_of l.initial.self).structs l.initial.variables.next (scope_of l.initial.self).meaning (map local_source_of l.fn.xs.items)
      ≡ ahead (map local_of l.typed.items) (typed_locals_lem (scope_of l.self).structs l.variables.next (scope_of l.self).meaning (map local_source_of (drop (length l.yielded) l.fn.xs.items)));
  scope : visible (scope_of l.initial.self).structs (behind_locals (scope_of l.initial.self).structs l.initial.variables.next (scope_of l.initial.self).meaning (map local_source_of l.fn.xs.items))
      ≡ visible (scope_of l.self).structs (behind_locals (scope_of l.self).structs l.variables.next (scope_of l.self).meaning (map local_source_of (drop (length l.yielded) l.fn.xs.items)));
  names : file_names l.self ≡ file_names l.initial.self;
  structs : l.self.structs ≡ l.initial.self.structs;
  owns : map own_of l.initial.variables.owns.items ++ map (source_own (scope_of l.initial.self).structs) (map local_source_of l.fn.xs.items)
      ≡ map own_of l.variables.owns.items ++ map (source_own (scope_of l.self).structs) (map local_source_of (drop (length l.yielded) l.fn.xs.items));
  taken : l.initial.variables.taken.items ++ locals_taken (scope_of l.initial.self).structs l.initial.variables.next (scope_of l.initial.self).meaning (map local_source_of l.fn.xs.items)
      ≡ l.variables.taken.items ++ locals_taken (scope_of l.self).structs l.variables.next (scope_of l.self).meaning (map local_source_of (drop (length l.yielded) l.fn.xs.items));
}
