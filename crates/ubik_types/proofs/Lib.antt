mod HostOrder
mod QuorumsShare
