-- Sections may go to another thread, and be read by several. What is kept of them may go to another thread.
use denote.Param.Send.{sendable, IsSend, IsSync, view_send, view_sync}
use denote.Param.SendFields.{declared_send, declared_sync}
use denote.Ref.{NamedLft}
use Rattle.std.proofs.Crossing.{crosses}
use Rattle.px_base.proofs.lists.List.TheSendSync as list
use Rattle.px_base.proofs.texts.Text.TheSendSync as text
use Rattle.px_host_lists.proofs.lists.HostList.TheSendSync as host_list
use Rattle.px_patterns.proofs.Crossing.{kept_pattern_send, kept_union_send, union_send, union_sync}
use Rattle.px_action_files.proofs.Crossing.{section_send, section_sync, update_send, update_sync}
use Rattle.px_merge.specs.contracts.host_lists.ListedHosts as listed
use Rattle.px_merge.specs.contracts.places.PatternPlace as place
use Rattle.px_merge.specs.contracts.places.Placed as placed
use Rattle.px_merge.specs.contracts.places.SectionCounts as counts
use Rattle.px_merge.specs.contracts.indexes.PlaceIndex as index
use Rattle.px_merge.specs.contracts.finders.Finder as finder
use Rattle.px_merge.specs.contracts.sections.Sections as sections
use Rattle.px_merge.specs.contracts.sections.Sections.TheInside as sections_inside
use Rattle.px_merge.specs.contracts.matchers.Matchers as matchers
use Rattle.px_merge.specs.contracts.matchers.Matchers.TheInside as matchers_inside
use Rattle.px_merge.specs.contracts.warm.WarmSections as warm
use Rattle.px_merge.specs.contracts.warm.WarmSections.TheInside as warm_inside

-- ---- lists of hosts

listed_send : IsSend listed.the_row
listed_send = declared_send listed.the_type (search (sendable, text.the_send) depth 40, (search (sendable, update_send) depth 40, (search (sendable, host_list.the_send) depth 40, tt)))

listed_sync : IsSync listed.the_row
listed_sync = declared_sync listed.the_type (search (sendable, text.the_sync) depth 40, (search (sendable, update_sync) depth 40, (search (sendable, host_list.the_sync) depth 40, tt)))

-- ---- sections

place_send : IsSend place.the_row
place_send = declared_send place.the_type (search (sendable, crosses) depth 40, (search (sendable, crosses) depth 40, tt))

place_sync : IsSync place.the_row
place_sync = declared_sync place.the_type (search (sendable, crosses) depth 40, (search (sendable, crosses) depth 40, tt))

placed_send : IsSend placed.the_row
placed_send = declared_send placed.the_type (search (sendable, crosses) depth 40, (search (sendable, section_send) depth 40, tt))

placed_sync : IsSync placed.the_row
placed_sync = declared_sync placed.the_type (search (sendable, crosses) depth 40, (search (sendable, section_sync) depth 40, tt))

counts_send : IsSend counts.the_row
counts_send = search (sendable, crosses) depth 40

counts_sync : IsSync counts.the_row
counts_sync = search (sendable, crosses) depth 40

index_send : IsSend index.the_row
index_send = declared_send index.the_type (search (sendable, list.the_send, place_send) depth 40, (search (sendable, crosses, list.the_send, place_send) depth 40, tt))

index_sync : IsSync index.the_row
index_sync = declared_sync index.the_type (search (sendable, list.the_sync, place_sync) depth 40, (search (sendable, crosses, list.the_sync, place_sync) depth 40, tt))

finder_send : IsSend finder.the_row
finder_send = declared_send finder.the_type (search (sendable, index_send) depth 40, (search (sendable, list.the_send, place_send) depth 40, (search (sendable, union_send) depth 40, tt)))

finder_sync : IsSync finder.the_row
finder_sync = declared_sync finder.the_type (search (sendable, index_sync) depth 40, (search (sendable, list.the_sync, place_sync) depth 40, (search (sendable, union_sync) depth 40, tt)))

pub sections_send : IsSend sections.the_row
sections_send = view_send sections_inside.the_row _ _ _ _ (declared_send sections_inside.the_type (search (sendable, list.the_send, listed_send) depth 40, (search (sendable, crosses, text.the_send) depth 40, (search (sendable, crosses, placed_send) depth 40, (search (sendable, counts_send) depth 40, (search (sendable, finder_send) depth 40, (search (sendable, crosses, place_send) depth 40, (search (sendable, crosses) depth 40, (search (sendable, crosses) depth 40, (search (sendable, crosses) depth 40, tt))))))))))

pub sections_sync : IsSync sections.the_row
sections_sync = view_sync sections_inside.the_row _ _ _ _ (declared_sync sections_inside.the_type (search (sendable, list.the_sync, listed_sync) depth 40, (search (sendable, crosses, text.the_sync) depth 40, (search (sendable, crosses, placed_sync) depth 40, (search (sendable, counts_sync) depth 40, (search (sendable, finder_sync) depth 40, (search (sendable, crosses, place_sync) depth 40, (search (sendable, crosses) depth 40, (search (sendable, crosses) depth 40, (search (sendable, crosses) depth 40, tt))))))))))

-- ---- what is kept of them

matchers_send : (κ : NamedLft) → IsSend (matchers.the_row κ)
matchers_send κ = view_send (matchers_inside.the_row κ) _ _ _ _ (declared_send (matchers_inside.the_type κ) (search (sendable, crosses, placed_sync) depth 40, (search (sendable, crosses, place_sync) depth 40, (search (sendable, crosses, kept_pattern_send) depth 40, tt))))

pub warm_send : (κ : NamedLft) → IsSend (warm.the_row κ)
warm_send κ = view_send (warm_inside.the_row κ) _ _ _ _ (declared_send (warm_inside.the_type κ) (search (sendable, sections_sync) depth 40, (search (sendable, finder_sync) depth 40, (search (sendable, kept_union_send) depth 40, (search (sendable, matchers_send) depth 40, tt)))))
