pub mod SiteItems
