use Rattle.std.proofs.Common.{◌≡◌, length, map, drop}
use Rattle.clight_syntax.specs.Code.TypedViews.{item_of, function_of}
use Rattle.clight_source.specs.Code.Views.{item_of as item_source_of}
use Rattle.clight_typing.specs.Code.HeldFile.{file_for}
use Rattle.clight_typing.specs.TypedPrograms.{typed_items as typed_items_lem}
use Rattle.clight_typing.proofs.ItemSteps.{behind}
use Rattle.clight_typing.proofs.files.File.typed_items.Given as goal

abbrev pub invariant-loop-x : goal.invariant-loop-x
invariant-loop-x l =
    typed_items_lem (file_for l.initial.self) (map item_source_of l.fn.xs.items)
    ≡ behind (map item_of l.items.items) (map function_of l.functions.items) (typed_items_lem (file_for l.self) (map item_source_of (drop (length l.yielded) l.fn.xs.items)))
