-- What a list has, and lists of which no two elements are alike.
pub use Rattle.mn_base.proofs.Members.{In, in_contained, contained_in, in_append, in_front, in_rest, in_map, in_filter, filter_in, in_flat_map, in_take}
pub use Rattle.mn_base.proofs.Members.{in_range, none_passes, passes_none, AreApart, one_alike, apart_filter, apart_push}
