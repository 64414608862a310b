use Rattle.std.proofs.Common.{◌≡◌, ◌+◌, ◌++◌, length, map, drop}
use Rattle.clight_typing.specs.Code.HeldFile.{with_owns}
use Rattle.clight_typing.specs.Code.HeldOwn.{own_of}
use Rattle.clight_typing.specs.Code.HeldScopes.{scope_of, file_names}
use Rattle.clight_types.specs.Scopes.{visible}
use Rattle.clight_typing.proofs.scope.Scope.declare_owns.Given as goal

abbrev pub invariant-loop-own : goal.invariant-loop-own
invariant-loop-own l = record {
  scope : visible (scope_of l.initial.self).structs (with_owns l.initial.variables.next (map own_of l.fn.owns.items) (scope_of l.initial.self).meaning)
      ≡ visible (scope_of l.self).structs (with_owns l.variables.next (map own_of (drop (length l.yielded) l.fn.owns.items)) (scope_of l.self).meaning);
  names : file_names l.self ≡ file_names l.initial.self;
  structs : l.self.structs ≡ l.initial.self.structs;
  next : l.variables.next ≡ l.initial.variables.next + length l.yielded;
  owns : map own_of l.variables.owns.items ≡ map own_of l.initial.variables.owns.items ++ map own_of l.yielded;
  taken : l.variables.taken ≡ l.initial.variables.taken;
}
